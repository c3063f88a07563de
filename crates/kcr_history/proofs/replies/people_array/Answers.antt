use Rattle.kcr_history.proofs.{Common.sym, Common.rules, Listed.separator_more, Listed.quoted_more}
use Rattle.kcr_history.proofs.replies.people_array.Goals as goal

pub loop-who-preserved : goal.loop-who-preserved
loop-who-preserved c =
    let so_far = c.loop-who.invariant in
    let below = c.loop-who-test.true in
    record {
      text = rw (
        c.in_ok-push_str-4.ensures.bytes,
        c.in_ok-push_str-3.ensures.bytes,
        c.as_str.ensures.value,
        c.in_ok-push_str-2.ensures.bytes,
        c.in_ok-push_str.ensures.bytes,
        so_far.text,
        so_far.comma,
      ) (quoted_more _ _ _ below c.who-item.is);
      comma = sym (separator_more _ _ below);
      utf8 = search rules;
    }
