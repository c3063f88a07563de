use Rattle.kcr_tables.proofs.Common.{[], ◌∷◌, has_value, Ordered}
use Rattle.kcr_tables.proofs.QueryLemmas.{query}
use Rattle.kcr_tables.proofs.table.find_rows.Goals as goal

pub returns : goal.returns
returns g c =
    let F = g.T.LookupBy.lookup_spec in
    let laws = g.met.T.LookupBy.lookup_laws in
    let key = c.args.key.now in
    let value = g.K.AsCell.value_of key in
    let told = c.shown_rows.ensures
    (query F.find_sql (value ∷ []) Ordered (F.is_under key) (has_value F.column value) (laws.under key) (laws.finds key))
    c.lookup_sql.ensures (λ i. c.cell.ensures i ∷ []) in
    record { rows = told.rows; exact = told.exact; opened = told.opened; frame = told.frame }
