use Rattle.kcr_room.proofs.occupancy.Occupancy.of.Goals as goal

pub returns : goal.returns
returns c = (rw c.in_ok-arrivals.ensures at c.sorted-comings.ensures.moved, rw c.in_ok-departures.ensures at c.sorted-goings.ensures.moved)
