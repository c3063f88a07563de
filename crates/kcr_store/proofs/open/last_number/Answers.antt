use Rattle.kcr_store.proofs.Common.{◌∙◌, ap, List, slice_get, KeyRow, tables, greatest-keys, held_of}
use Rattle.kcr_tables.proofs.ViewLemmas.{told, greatest_told}
use Rattle.kcr_store.proofs.StoreLemmas.{held_in}
use Rattle.kcr_store.proofs.open.last_number.Goals as goal

pub returns-in-Some-clause-count : goal.returns-in-Some-clause-count
returns-in-Some-clause-count g c clean A had =
    let was = had (c.in_ok-last.ensures.opened clean) in
    let held = held_in _ _ was in
    let greatest = c.in_ok-last.ensures.rows clean held.tables.t (held_of (tables A) _ held) in
    ap told c.in-Some.ensures.value ∙ ap (λ (l : List KeyRow). told (slice_get l 0)) c.deref.ensures.value
    ∙ greatest_told (tables A) _ held c.in_ok-last.last.items greatest ∙ greatest-keys A was.tables.register

pub returns-clause-count : goal.returns-clause-count
returns-clause-count g c clean A had =
    let was = had (c.in_ok-last.ensures.opened clean) in
    let held = held_in _ _ was in
    let greatest = c.in_ok-last.ensures.rows clean held.tables.t (held_of (tables A) _ held) in
    ap told c.in-None.ensures.value ∙ ap (λ (l : List KeyRow). told (slice_get l 0)) c.deref.ensures.value
    ∙ greatest_told (tables A) _ held c.in_ok-last.last.items greatest ∙ greatest-keys A was.tables.register
