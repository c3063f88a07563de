use Rattle.kcr_history.proofs.{Common.sym, Common.rules, Common.append_assoc, Listed.listed_more, Listed.separator_more}
use Rattle.kcr_history.proofs.comma_lists.push_codes.Goals as goal

pub loop-code-preserved : goal.loop-code-preserved
loop-code-preserved g c =
    let so_far = c.loop-code.invariant in
    let below = c.loop-code-test.true in
    record {
      text =
          rw (
            c.in_ok-push_str-2.ensures.bytes,
            c.code.ensures,
            c.in_ok-push_str.ensures.bytes,
            so_far.text,
            so_far.comma,
            listed_more g.T.Written.text g.T.ListElement.texts g.met.T.ListElement.each c.args.codes.now c.loop-code.code-index c.code-item.result below c.code-item.is,
          )
          (simp append_assoc);
      comma = sym (separator_more _ _ below);
      utf8 = search rules;
    }
