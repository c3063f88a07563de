use Rattle.kcr_reading.proofs.Common.{◌∙◌, ◌-◌, List, length, slice_get, ap, rules, option_copied, Stay}
use Rattle.kcr_reading.proofs.{StayLemmas.next_listed, stays.next_stays.Goals.in-Some, stays.next_stays.Goals.in_default}
use Rattle.kcr_reading.proofs.stays.next_stays.Goals as goal

pub returns-clause-gives : goal.returns-clause-gives
returns-clause-gives g c clean m h =
    let ends = c.last.ensures.value ∙ ap (λ (l : List Stay). slice_get l (length l - 1)) c.deref.ensures.value in
    let next = next_listed c.args.ceremony c.args.last.now m h.tables c.in_ok-found.found.items (option_copied c.last.result) ends
    (c.in_ok-found.ensures.first clean m h) in
    elim c.match-last.branch [ in-Some w ↦ search (rules, next) | in_default w ↦ search (rules, next) ]
