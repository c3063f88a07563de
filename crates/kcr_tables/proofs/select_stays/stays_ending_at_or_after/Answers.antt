use Rattle.kcr_tables.proofs.Common.{[], ◌∷◌, refl}
use Rattle.kcr_tables.proofs.Queries.{room}
use Rattle.kcr_tables.proofs.select_stays.stays_ending_at_or_after.Goals as goal

pub returns : goal.returns
returns g c =
    let told = c.shown_rows.ensures (room c.args.ceremony c.args.at) refl (λ i. c.number_cell.ensures i ∷ c.number_cell-2.ensures i ∷ []) in
    record { rows = told.rows; exact = told.exact; frame = told.frame }
