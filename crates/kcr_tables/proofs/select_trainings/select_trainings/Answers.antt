use Rattle.kcr_tables.proofs.Common.{rules, [], ◌∷◌, refl, is_training_asked, training_row}
use Rattle.kcr_history.specs.declared.views.TrainingFilter.TheVariants.{Person, EndingOnOrAfter}
use Rattle.kcr_tables.proofs.{ExactLemmas.shown_as, Queries.lasting, QueryLemmas.rows_asked, QueryLemmas.found_asked}
use Rattle.kcr_tables.proofs.select_trainings.select_trainings.Goals as goal

pub returns-in-Matching-Person-clause-rows : goal.returns-in-Matching-Person-clause-rows
returns-in-Matching-Person-clause-rows g c clean t held =
    found_asked is_training_asked t.rows.trainings (Person c.in-Matching-Person.who) c.in-Matching-Person.is (search rules) c.find_rows.result
    (c.find_rows.ensures.rows clean t held)

pub returns-in-Matching-EndingOnOrAfter-clause-rows : goal.returns-in-Matching-EndingOnOrAfter-clause-rows
returns-in-Matching-EndingOnOrAfter-clause-rows g c clean t held =
    rows_asked is_training_asked t.rows.trainings (EndingOnOrAfter c.in-Matching-EndingOnOrAfter.day) c.in-Matching-EndingOnOrAfter.is (search rules)
    _ ((c.shown_rows.ensures (lasting c.in-Matching-EndingOnOrAfter.day) refl (λ i. c.number_cell.ensures i ∷ [])).rows clean t held)

pub returns-in-Matching-Person-clause-exact : goal.returns-in-Matching-Person-clause-exact
returns-in-Matching-Person-clause-exact g c clean has =
    shown_as training_row (search rules) c.find_rows.result (c.find_rows.ensures.exact clean has)

pub returns-in-Matching-EndingOnOrAfter-clause-exact : goal.returns-in-Matching-EndingOnOrAfter-clause-exact
returns-in-Matching-EndingOnOrAfter-clause-exact g c clean has =
    shown_as training_row (search rules) c.shown_rows.result
    ((c.shown_rows.ensures (lasting c.in-Matching-EndingOnOrAfter.day) refl (λ i. c.number_cell.ensures i ∷ [])).exact clean has)

pub returns-in-Matching-EndingOnOrAfter-clause-frame : goal.returns-in-Matching-EndingOnOrAfter-clause-frame
returns-in-Matching-EndingOnOrAfter-clause-frame g c =
    (c.shown_rows.ensures (lasting c.in-Matching-EndingOnOrAfter.day) refl (λ i. c.number_cell.ensures i ∷ [])).frame

pub returns-in-All-clause-exact : goal.returns-in-All-clause-exact
returns-in-All-clause-exact g c clean has = search (rules, shown_as)
