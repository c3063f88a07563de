use Rattle.kcr_seats.proofs.{SearchLemmas.restored, First.refused_stuck}
use Rattle.kcr_seats.proofs.search.try_person.Goals as goal

pub returns-in-Stuck-clause-tried : goal.returns-in-Stuck-clause-tried
returns-in-Stuck-clause-tried g c =
    let told = rw c.in-Stuck.is at c.in_ok-reseat.ensures.tried in
    refused_stuck c.requires.seating c.requires.seat (restored _ _ _ _ _ told.0 c.index-old.ensures) told.1
