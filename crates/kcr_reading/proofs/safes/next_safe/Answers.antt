use Rattle.kcr_reading.proofs.Common.{◌∙◌, ap, sym, rules, find, slice_get-filter, held_of, is_past, safe_place, SafeRow}
use Rattle.kcr_reading.proofs.{CustodyLemmas.next_safe, safes.next_safe.Goals.in-Some, safes.next_safe.Goals.in_default}
use Rattle.kcr_reading.proofs.safes.next_safe.Goals as goal

pub returns-clause-gives : goal.returns-clause-gives
returns-clause-gives g c clean m h =
    let test = λ (row : SafeRow). is_past c.args.last.now (safe_place row) in
    let rows = c.in_ok-rows.ensures.rows clean h.tables.t (held_of m _ h) in
    let found = c.safe_past-found.ensures ∙ ap (find test) (c.as_slice.ensures.value ∙ rows) ∙ sym (slice_get-filter test h.tables.t.rows.safes) in
    let next = next_safe c.args.last.now m h.tables c.safe_past-found.result found in
    elim c.match-found.branch [ in-Some w ↦ search (rules, next) | in_default w ↦ search (rules, next) ]
