use Rattle.kcr_script.proofs.Common.{◌≡◌, ℕ, List, sym, ap, ◌∙◌, arith, string_bytes, ◌+◌, ◌-◌, Item, all_appended, groups, pair_item}
use Rattle.kcr_script.proofs.WrittenLemmas.{groups_more}
use Rattle.kcr_script.proofs.seats.push_run.Goals as goal

pub loop-left-preserved : goal.loop-left-preserved
loop-left-preserved c =
    let back : c.loop-left.left - 7 + 7 ≡ c.loop-left.left = omega arith in
    let more = rw back at (groups_more c.args.seat (c.loop-left.left - 7)) in
    record {
      some = omega arith;
      same = ap (λ (t : List ℕ). all_appended t (groups (pair_item (c.args.seat, c.loop-left.left - 7)))) c.in_ok-push_item.ensures
          ∙ sym (ap (λ (items : List Item). all_appended (string_bytes c.loop-left.text) items) more) ∙ c.loop-left.invariant.same;
    }
