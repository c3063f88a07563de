use Rattle.kcr_script.proofs.Common.{Some, ◌+◌, ◌≤◌, [], ◌∷◌, map, ap, arith, append-nil, nil_from_length, fields_of}
use Rattle.kcr_script.proofs.StepLemmas.{faulty_row, first_step, on_row, breaks_row, push_before, none_left}
use Rattle.kcr_script.proofs.reader.read_steps.Goals as goal

pub returns-in_default-2-clause-fault : goal.returns-in_default-2-clause-fault
returns-in_default-2-clause-fault c =
    let first = ap (map fields_of) c.in-Some.ensures.cases.0 in
    c.loop-row.invariant.breaks (c.loop-row.number + 1) (faulty_row _ _ _ _ first c.in_ok-step.field-0 c.in_default-2.is c.in_ok-step.ensures.only)

pub returns-in_default-2-clause-only : goal.returns-in_default-2-clause-only
returns-in_default-2-clause-only c steps h =
    let first = ap (map fields_of) c.in-Some.ensures.cases.0 in
    let b = c.loop-row.invariant.back steps h in
    let r = first_step _ _ _ _ first c.in_ok-step.field-0 c.in_ok-step.ensures.only b.0 b.1 in
    absurd (let none = c.in_default-2.is in let some = r.1 in cc)

pub loop-row-preserved : goal.loop-row-preserved
loop-row-preserved c =
    let inv = c.loop-row.invariant in
    let first = ap (map fields_of) c.in-Some.ensures.cases.0 in
    let is = rw c.in-Some-2.is at c.in_ok-step.ensures.found in
    let only = rw c.in-Some-2.is at c.in_ok-step.ensures.only in
    let pushed = c.in_ok-push.ensures.items in
    let low : c.loop-row.number ≤ 400 = omega arith in
    record {
      on = λ tail h. rw (push_before _ _ tail _ pushed) (inv.on (c.in-Some-2.step ∷ tail) (on_row _ _ _ _ first c.in-Some-2.step low is tail h));
      back = λ all h.
          let b = inv.back all h in
          let r = first_step _ _ _ _ first (Some c.in-Some-2.step) only b.0 b.1 in
          (r.2.0, r.2.1, cc (b.2, r.1, r.2.2, push_before _ _ r.2.0 _ pushed));
      breaks = λ r h. inv.breaks r (breaks_row _ _ _ _ first c.in-Some-2.step low is r h);
      low = omega arith;
      high = omega arith;
    }

pub returns-clause-found : goal.returns-clause-found
returns-clause-found c =
    let none = none_left (map fields_of c.loop-row.rest.now) c.loop-row.number (ap (map fields_of) (nil_from_length _ c.in_default.ensures.cases)) in
    rw (append-nil c.loop-row.steps.items) at (c.loop-row.invariant.on [] none)
