use Rattle.kcr_tables.proofs.Common.{[], ◌∷◌, refl}
use Rattle.kcr_tables.proofs.Queries.{last_of}
use Rattle.kcr_tables.proofs.last.last_appointment_of.Goals as goal

pub returns : goal.returns
returns g c = c.shown_rows.ensures (last_of c.args.who.now) refl (λ i. c.cell.ensures i ∷ [])
