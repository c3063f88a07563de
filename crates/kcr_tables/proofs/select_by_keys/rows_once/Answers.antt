use Rattle.kcr_tables.proofs.Common.{refl, sym, ◌∙◌}
use Rattle.kcr_tables.proofs.ExactLemmas.{shown_as}
use Rattle.kcr_tables.proofs.select_by_keys.rows_once.Goals as goal

pub returns-else-is_named-clause-exact : goal.returns-else-is_named-clause-exact
returns-else-is_named-clause-exact g c clean has =
    shown_as g.T.FromRow.row_of (rw (sym c.is_named.ensures ∙ c.if-is_named.false) refl) c.find_rows.result (c.find_rows.ensures.exact clean has)
