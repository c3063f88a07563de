use Rattle.kcr_reading.proofs.Common.{◌≡◌, ℕ, List, ◌++◌, ◌∷◌, [], ◌∙◌, length, map, sym, ap, arith, append_assoc, map-append, nil_from_length}
use Rattle.kcr_reading.proofs.Common.{into_iter_items, with_people}
use Rattle.std.proofs.lemmas.List.{append-nil}
use Rattle.kcr_history.specs.declared.report_rows.SeatedStep.{SeatedStep}
use Rattle.kcr_reading.proofs.steps.with_people.Goals as goal

pub loop-step-preserved : goal.loop-step-preserved
loop-step-preserved c =
    let at = c.loop-step in
    let x = c.in-Some.step in
    let steps : into_iter_items at.step-iterator ≡ x ∷ into_iter_items c.next.new.self = c.in-Some.ensures.steps.0 in
    let seated : List (List ℕ) → SeatedStep = λ people. record { step = x; seated = people } in record {
      made = c.in_ok-push.ensures.items ∙ (λ i. at.invariant.made i ++ (seated ((c.new-seated.ensures ∙ c.in_ok-people.ensures) i) ∷ []))
          ∙ sym (map-append (with_people c.args.rows.now) at.yielded (x ∷ []));
      left = append_assoc at.yielded (x ∷ []) _ ∙ rw (← steps) at.invariant.left;
      len = omega (arith, at.invariant.len, c.in-Some.ensures.steps.1, ap length steps);
    }

pub returns : goal.returns
returns c =
    let at = c.loop-step in
    let none = c.in-None.ensures.steps in
    let empty : into_iter_items at.step-iterator ≡ [] = nil_from_length _ (sym at.invariant.len ∙ none.0) in
    let all = sym (append-nil at.yielded) ∙ rw empty at at.invariant.left ∙ c.into_iter-step-iterator.ensures.into_iter_gives.0 in
    at.invariant.made ∙ ap (map (with_people c.args.rows.now)) all
