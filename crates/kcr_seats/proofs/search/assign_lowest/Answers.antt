use Rattle.std.proofs.Common.{◌≢◌, ◌+◌, ◌≤◌, ◌∙◌, ap, sym, arith, get_or, true, false}
use Rattle.std.proofs.lemmas.Grind.{get_or_default_zero}
use Rattle.kcr_seats.proofs.Turns.{in_lower}
use Rattle.kcr_seats.proofs.search.assign_lowest.Goals as goal
use Rattle.kcr_seats.proofs.search.assign_lowest.Goals.{else-contains-via-then-contains+in_ok-try_person+else-branch, else-contains-via-else-contains}

pub loop-person-preserved : goal.loop-person-preserved
loop-person-preserved g c = elim c.else-contains.branch [
  | else-contains-via-then-contains+in_ok-try_person+else-branch w ↦
      let z = rw w.if-branch.false at w.in_ok-try_person.ensures.tried in
      record {
        cost = omega arith;
        same = ap (λ x. x.items) w.seating-is ∙ z.same ∙ c.loop-person.invariant.same;
        reached = λ v s same. omega (
          arith,
          c.loop-person.invariant.reached v s same,
          z.none v s (λ k h. same k h ∙ sym (ap (λ x. get_or x k 0) c.loop-person.invariant.same)),
        );
      }
  | else-contains-via-else-contains w ↦ record {
    cost = omega arith;
    same = ap (λ x. x.items) w.seating-is ∙ c.loop-person.invariant.same;
    reached = λ v s same. (
        let low : c.loop-person.person ≤ get_or v c.args.seat 0 = c.loop-person.invariant.reached v s same in
        let other : get_or v c.args.seat 0 ≢ c.loop-person.person = λ e.
        absurd (cc (rw e at (s.fitting c.args.seat c.requires.seat), w.if-contains.ensures, c.row-fitting.ensures.each c.loop-person.person)) in
        omega arith);
  }
]

pub returns-in_err-try_person-clause-cost : goal.returns-in_err-try_person-clause-cost
returns-in_err-try_person-clause-cost g c =
    omega (arith, in_lower c.requires.seating c.requires.seat (c.loop-person.person + 1) c.index-person-end.ensures (omega arith))

pub returns-then-branch-clause-cost : goal.returns-then-branch-clause-cost
returns-then-branch-clause-cost g c =
    omega (arith, in_lower c.requires.seating c.requires.seat (c.loop-person.person + 1) c.index-person-end.ensures (omega arith))

pub returns-clause-cost : goal.returns-clause-cost
returns-clause-cost g c =
    omega (arith, in_lower c.requires.seating c.requires.seat c.loop-person.person c.index-person-end.ensures (omega arith))

pub returns-then-branch-clause-lowered : goal.returns-then-branch-clause-lowered
returns-then-branch-clause-lowered g c =
    let tried = rw c.if-branch.true at c.in_ok-try_person.ensures.tried in
    let before = c.loop-person.invariant.same in
    record {
      seating = tried.seating;
      same = λ k below. tried.same k below ∙ ap (λ x. get_or x k 0) before;
      lowest = λ v s same. rw tried.here (c.loop-person.invariant.reached v s same);
    }

pub try_person-requires-clause-other : goal.try_person-requires-clause-other
try_person-requires-clause-other g c = λ e.
    let is = ap (λ x. get_or x c.args.seat 0) c.loop-person.invariant.same in
    let end = get_or_default_zero c.args.seating.now.items c.args.seat c.index-person-end.result.now (omega arith) in
    absurd (omega (arith, e, is, end, c.index-person-end.ensures))

pub returns-clause-lowered : goal.returns-clause-lowered
returns-clause-lowered g c =
    let before = c.loop-person.invariant.same in
    let is = ap (λ x. get_or x c.args.seat 0) before in
    let end = get_or_default_zero c.args.seating.now.items c.args.seat c.index-person-end.result.now (omega arith) in
    record {
      seating = rw before c.requires.seating;
      same = λ k below. ap (λ x. get_or x k 0) before;
      lowest = λ v s same. omega (arith, is, end, c.index-person-end.ensures, c.loop-person.invariant.reached v s same);
    }
