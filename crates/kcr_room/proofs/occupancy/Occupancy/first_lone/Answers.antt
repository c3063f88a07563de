use Rattle.kcr_room.proofs.{Common.rules, Counting.found-least}
use Rattle.kcr_room.proofs.occupancy.Occupancy.first_lone.Goals as goal

pub returns : goal.returns
returns c = search (rules, found-least)
