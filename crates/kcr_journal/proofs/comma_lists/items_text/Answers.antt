use Rattle.std.proofs.Common.{sym, rules}
use Rattle.kcr_journal.proofs.Commas.{joined_more, separator_more}
use Rattle.kcr_journal.proofs.comma_lists.items_text.Goals as goal

pub loop-item-preserved : goal.loop-item-preserved
loop-item-preserved c =
    let so_far = c.loop-item.invariant in
    let below = c.loop-item-test.true in
    record {
      text =
          rw (c.in_ok-push_str-2.ensures.bytes, c.as_str.ensures.value, c.in_ok-push_str.ensures.bytes, so_far.text, so_far.comma)
          (sym (joined_more _ _ _ below c.item-item.is));
      comma = sym (separator_more _ _ below);
      utf8 = search rules;
    }
