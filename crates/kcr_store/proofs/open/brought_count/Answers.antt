use Rattle.kcr_store.proofs.Common.{rules, tables, clean_before, if_both}
use Rattle.kcr_store.proofs.StoreLemmas.{brought_stores}
use Rattle.kcr_store.proofs.open.brought_count.Goals as goal

pub returns-clause-brought : goal.returns-clause-brought
returns-clause-brought g c clean A s =
    let held = c.in_ok-migrate.ensures.brought (clean_before c.last_number.ensures.frame.within clean) A s in
    if_both _ _ _ (λ count is held. (is, held)) c.last_number.result
    (c.last_number.ensures.count clean A (λ _. brought_stores A _ s.tables.register held))
    (c.last_number.ensures.frame.tables clean (tables A) held)

pub returns-clause-rows : goal.returns-clause-rows
returns-clause-rows g c clean t held = search (rules, clean_before)
