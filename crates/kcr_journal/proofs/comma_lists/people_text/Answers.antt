use Rattle.std.proofs.Common.{sym, rules}
use Rattle.kcr_journal.proofs.Commas.{people_more, separator_more}
use Rattle.kcr_journal.proofs.comma_lists.people_text.Goals as goal

pub loop-person-preserved : goal.loop-person-preserved
loop-person-preserved c =
    let so_far = c.loop-person.invariant in
    let below = c.loop-person-test.true in
    record {
      text = rw (
        c.in_ok-push_str-5.ensures.bytes,
        c.in_ok-push_str-4.ensures.bytes,
        c.as_str-in-loop-person.ensures.value,
        c.in_ok-push_str-3.ensures.bytes,
        c.in_ok-push_str-2.ensures.bytes,
        c.as_str.ensures.value,
        c.in_ok-push_str.ensures.bytes,
        so_far.text,
        so_far.comma,
      ) (sym (people_more _ _ _ below c.person-item.is));
      comma = sym (separator_more _ _ below);
      utf8 = search rules;
    }
