use Rattle.kcr_reading.proofs.{Common.rules, CustodyLemmas.next_bag, bags.next_bag.Goals.in-Some, bags.next_bag.Goals.in_default}
use Rattle.kcr_reading.proofs.bags.next_bag.Goals as goal

pub returns-clause-gives : goal.returns-clause-gives
returns-clause-gives g c clean m h =
    let next = next_bag c.args.last.now m h.tables c.in_ok-found.found (c.in_ok-found.ensures.first clean m h) in
    elim c.match-found.branch [ in-Some w ↦ search (rules, next) | in_default w ↦ search (rules, next) ]
