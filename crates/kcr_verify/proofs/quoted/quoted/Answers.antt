use Rattle.kcr_verify.proofs.Common.{◌∙◌, ℕ, ap, length, Global, Vec, row_text}
use Rattle.kcr_rows.proofs.CellLemmas.{params_are}
use Rattle.kcr_verify.proofs.quoted.quoted.Goals as goal

pub returns-in-Ok-clause-text : goal.returns-in-Ok-clause-text
returns-in-Ok-clause-text g c =
    let kinds = c.kinds-columns.ensures.kinds in
    let row = params_are _ _ _ _ _ c.values.ensures (ap length kinds) c.in_ok-cells.ensures.cells in
    c.from_string.ensures ∙ ap (λ (v : Vec ℕ Global). v.items) c.in-Ok.ensures.ok ∙ c.in_ok-line.ensures ∙ (λ i. row_text (kinds i) (row i))
