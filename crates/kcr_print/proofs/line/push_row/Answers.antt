use Rattle.kcr_print.proofs.Common.{◌++◌, List, ℕ, ap, ◌∙◌, Bor}
use Rattle.kcr_print.proofs.CsvLemmas.{row_is}
use Rattle.kcr_print.proofs.line.push_row.Goals as goal

pub returns-clause-row : goal.returns-clause-row
returns-clause-row c =
    let is = row_is (λ (f : Bor (List ℕ)). f.now) c.args.fields.now c.requires in
    c.in_ok-extend_from_slice.ensures.items ∙ rw (c.as_slice.ensures.value, c.in_ok-row.ensures.text) (ap (λ t. c.args.out.now.items ++ t) is)
