use Rattle.kcr_reading.proofs.Common.{◌∷◌, [], Some, None, ◌∙◌, ap, Text}
use Rattle.kcr_reading.proofs.{ChoiceLemmas.shown_by, ChoiceLemmas.by_tables, CustodyLemmas.bags_shown, CustodyLemmas.first_bag}
use Rattle.kcr_reading.proofs.bags.first_bag_after.Goals as goal

pub returns-in-Some-clause-first : goal.returns-in-Some-clause-first
returns-in-Some-clause-first g c =
    let last = c.in-Some.serial in
    rw c.in-Some.is (by_tables c.first_row.result _ _ (c.first_row.ensures.row _ (shown_by (bags_shown (Some last)) (λ i. (c.text_cell.ensures ∙ ap Text c.as_str.ensures.value) i ∷ [])))
    (λ m k. first_bag (Some last) m k))

pub returns-in-Some-clause-frame : goal.returns-in-Some-clause-frame
returns-in-Some-clause-frame g c = c.first_row.ensures.frame _ (shown_by (bags_shown (Some c.in-Some.serial)) (λ i. (c.text_cell.ensures ∙ ap Text c.as_str.ensures.value) i ∷ []))

pub returns-in-None-clause-first : goal.returns-in-None-clause-first
returns-in-None-clause-first g c =
    rw c.in-None.is (by_tables c.first_row-in-None.result _ _ (c.first_row-in-None.ensures.row _ (bags_shown None)) (λ m k. first_bag None m k))

pub returns-in-None-clause-frame : goal.returns-in-None-clause-frame
returns-in-None-clause-frame g c = c.first_row-in-None.ensures.frame _ (bags_shown None)
