use Rattle.kcr_reading.proofs.Common.{◌∙◌, map, ap, List, ℕ, Item, with_items, items_by_code, clean_before}
use Rattle.kcr_history.specs.declared.report_rows.BagWithItems.{BagWithItems}
use Rattle.kcr_reading.proofs.ChoiceLemmas.{gives_made}
use Rattle.kcr_reading.proofs.bags.BagCursorCursor.next.Goals as goal

pub returns-clause-gives : goal.returns-clause-gives
returns-clause-gives g c clean m live =
    let before = clean_before c.items_within.ensures.frame.within clean in
    let h = live (c.in_ok-bag.ensures.opened before) in
    let still = c.in_ok-bag.ensures.frame.tables before m h in
    let made : List (List ℕ) → BagWithItems = λ codes. record { bag = c.in-Some.bag; codes = codes } in
    gives_made (with_items (items_by_code m)) _ _ _ _ c.in-Some.is (c.in_ok-bag.ensures.gives before m h) _
    (ap made (c.new-codes.ensures ∙ c.in_ok-list.ensures ∙ ap (map (λ (item : Item). item.code)) (c.as_slice.ensures.value ∙ c.in_ok-items.ensures.rows clean m still)))
