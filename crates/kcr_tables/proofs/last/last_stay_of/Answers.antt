use Rattle.kcr_tables.proofs.Common.{[], ◌∷◌, refl}
use Rattle.kcr_tables.proofs.Queries.{last_stay}
use Rattle.kcr_tables.proofs.last.last_stay_of.Goals as goal

pub returns : goal.returns
returns g c =
    let told = c.shown_rows.ensures (last_stay c.args.who.now) refl (λ i. c.cell.ensures i ∷ []) in
    record { rows = told.rows; exact = told.exact; frame = told.frame }
