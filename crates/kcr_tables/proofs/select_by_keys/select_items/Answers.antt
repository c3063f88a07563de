use Rattle.kcr_tables.proofs.Common.{rules, is_item_of, item_row, is_item_row}
use Rattle.kcr_history.specs.declared.views.ItemFilter.TheVariants.{Codes, Bag}
use Rattle.kcr_tables.proofs.{ExactLemmas.shown_as, ExactLemmas.shown_asked, QueryLemmas.rows_asked, QueryLemmas.found_asked}
use Rattle.kcr_tables.proofs.select_by_keys.select_items.Goals as goal

pub returns-in-Matching-Codes-clause-rows : goal.returns-in-Matching-Codes-clause-rows
returns-in-Matching-Codes-clause-rows g c clean t held =
    rows_asked is_item_of t.rows.items (Codes c.as_slice.result.now) c.in-Matching-Codes.is (search rules) _ (c.rows_named.ensures.rows clean t held)

pub returns-in-Matching-Bag-clause-rows : goal.returns-in-Matching-Bag-clause-rows
returns-in-Matching-Bag-clause-rows g c clean t held =
    found_asked is_item_of t.rows.items (Bag c.in-Matching-Bag.serial) c.in-Matching-Bag.is (search rules) _ (c.find_rows.ensures.rows clean t held)

pub returns-in-Matching-Codes-clause-exact : goal.returns-in-Matching-Codes-clause-exact
returns-in-Matching-Codes-clause-exact g c clean has =
    shown_asked item_row is_item_row (Codes c.as_slice.result.now) _ c.in-Matching-Codes.is (search rules) _ (c.rows_named.ensures.exact clean has)

pub returns-in-Matching-Bag-clause-exact : goal.returns-in-Matching-Bag-clause-exact
returns-in-Matching-Bag-clause-exact g c clean has =
    shown_as item_row (search rules) c.find_rows.result (c.find_rows.ensures.exact clean has)

pub returns-in-All-clause-exact : goal.returns-in-All-clause-exact
returns-in-All-clause-exact g c clean has = search (rules, shown_as)
