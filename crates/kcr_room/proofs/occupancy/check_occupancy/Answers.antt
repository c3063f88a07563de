use Rattle.kcr_room.proofs.{Common.rules, Counting.told-crowded, Counting.told-lone}
use Rattle.kcr_room.proofs.occupancy.check_occupancy.Goals as goal

pub returns-clause-crowded : goal.returns-clause-crowded
returns-clause-crowded c = search (rules, told-crowded)

pub returns-clause-lone : goal.returns-clause-lone
returns-clause-lone c = search (rules, told-lone)
