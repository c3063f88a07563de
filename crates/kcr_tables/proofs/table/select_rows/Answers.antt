use Rattle.kcr_tables.proofs.{Common.rules, Common.has_value, ExactLemmas.shown_as}
use Rattle.kcr_tables.proofs.table.select_rows.Goals as goal

pub returns-in-Matching-clause-exact : goal.returns-in-Matching-clause-exact
returns-in-Matching-clause-exact g c clean has =
    shown_as g.T.FromRow.row_of (search rules) c.find_rows.result (c.find_rows.ensures.exact clean has)

pub returns-in-All-clause-exact : goal.returns-in-All-clause-exact
returns-in-All-clause-exact g c clean has = search (rules, shown_as, has_value)
