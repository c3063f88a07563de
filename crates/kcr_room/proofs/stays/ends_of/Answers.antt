use Rattle.kcr_room.proofs.Common.{◌≡◌, length, ap, rules, nil_from_length, get, same_text}
use Rattle.std.specs.Map.{lookup}
use Rattle.kcr_room.proofs.Steps.{told-init, told-next, told-all, place-within}
use Rattle.kcr_room.proofs.stays.ends_of.Goals as goal

pub loop-step-init : goal.loop-step-init
loop-step-init c =
    told-init c.args.rows.now c.sort_unstable.new.self.items (λ who. get same_text c.new-next.result who) c.in_ok-ends.ends.items
    (λ who. ap (lookup (same_text who)) c.new-next.ensures.empty) (search rules)

pub loop-step-preserved : goal.loop-step-preserved
loop-step-preserved c =
    let moved = rw c.in_ok-steps.ensures at c.sort_unstable.ensures.permutation in
    let told = rw c.in-Some.ensures.items at c.loop-step.invariant in
    rw c.in_ok-ends-2.ensures.old (told-next _ _ _ _ _ _ moved told c.sort_unstable.ensures.sorted _ c.in_ok-ends-2.ensures.updates.0)

pub index_mut-requires : goal.index_mut-requires
index_mut-requires c =
    let moved = rw c.in_ok-steps.ensures at c.sort_unstable.ensures.permutation in
    let h = place-within _ _ _ _ _ _ moved (rw c.in-Some.ensures.items at c.loop-step.invariant) in
    search rules

pub returns : goal.returns
returns c =
    let moved = rw c.in_ok-steps.ensures at c.sort_unstable.ensures.permutation in
    let none : length c.loop-step.steps.items ≡ 0 = search rules in
    told-all _ _ _ _ moved (rw (nil_from_length c.loop-step.steps.items none) at c.loop-step.invariant)
