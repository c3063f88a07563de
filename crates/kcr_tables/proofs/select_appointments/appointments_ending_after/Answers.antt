use Rattle.kcr_tables.proofs.Common.{[], ◌∷◌, refl}
use Rattle.kcr_tables.proofs.Queries.{beyond}
use Rattle.kcr_tables.proofs.select_appointments.appointments_ending_after.Goals as goal

pub returns : goal.returns
returns g c =
    let told = c.shown_rows.ensures (beyond c.args.day) refl (λ i. c.number_cell.ensures i ∷ []) in
    record { rows = told.rows; exact = told.exact; opened = told.opened; frame = told.frame }
