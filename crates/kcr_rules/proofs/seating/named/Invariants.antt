use Rattle.kcr_rules.proofs.Common.{◌≡◌, [], get_or, map, take}
use Rattle.kcr_rules.proofs.seating.named.Given as goal

-- what is there is the people with the numbers so far
abbrev pub invariant-loop-number : goal.invariant-loop-number
invariant-loop-number l = l.list.items ≡ map (λ person. get_or l.people person []) (take l.number-index l.numbers)
