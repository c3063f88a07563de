use Rattle.kcr_tables.proofs.Common.{[], ◌∷◌, refl, ap, ◌∙◌, Text}
use Rattle.kcr_tables.proofs.Queries.{last_to}
use Rattle.kcr_tables.proofs.last.last_appointment_to.Goals as goal

pub returns : goal.returns
returns g c =
    c.shown_rows.ensures (last_to c.args.place) refl (λ i. (c.text_cell.ensures ∙ ap Text (c.as_str.ensures ∙ c.text-words.ensures)) i ∷ [])
