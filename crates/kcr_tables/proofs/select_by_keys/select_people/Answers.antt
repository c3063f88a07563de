use Rattle.kcr_tables.proofs.Common.{sym, rules, is_of_people, person_row, has_any}
use Rattle.kcr_tables.proofs.{ExactLemmas.shown_as, ExactLemmas.shown_asked, QueryLemmas.rows_asked}
use Rattle.kcr_tables.proofs.select_by_keys.select_people.Goals as goal

pub returns-in-Matching-clause-rows : goal.returns-in-Matching-clause-rows
returns-in-Matching-clause-rows g c clean t held =
    rows_asked is_of_people t.rows.people c.as_slice.result.now c.in-Matching.is (sym c.as_slice.ensures) _ (c.rows_named.ensures.rows clean t held)

pub returns-in-Matching-clause-exact : goal.returns-in-Matching-clause-exact
returns-in-Matching-clause-exact g c clean has =
    shown_asked person_row (has_any 0) c.as_slice.result.now _ c.in-Matching.is (sym c.as_slice.ensures) _ (c.rows_named.ensures.exact clean has)

pub returns-in-All-clause-exact : goal.returns-in-All-clause-exact
returns-in-All-clause-exact g c clean has = search (rules, shown_as)
