use Rattle.kcr_room.proofs.Common.{IsNonDecreasingBy-from_sort}
use Rattle.kcr_room.proofs.occupancy.sorted.Goals as goal

pub returns-clause-rising : goal.returns-clause-rising
returns-clause-rising c = IsNonDecreasingBy-from_sort (λ moment. moment) c.sort_unstable.new.self.items c.sort_unstable.ensures.sorted
