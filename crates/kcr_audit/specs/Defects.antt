-- Rows that an audit tells of.
use Rattle.std.specs.Prelude.{◌≡◌, ℕ, Bool, true, false, not, ◌&&◌, ◌||◌, nat_lt, List, Option, Some, None}
use Rattle.std.specs.List.{list_any}
use Rattle.kcr_base.specs.Same.{same_text}
use Rattle.kcr_custody.specs.declared.{Bag.Bag, Item.Item}
use Rattle.kcr_history.specs.declared.{row_types.KeyRow.KeyRow, row_types.StepRow.StepRow, row_types.SeatingRow.SeatingRow, views.FullView.FullView}
use Rattle.kcr_history.specs.Audit.{is_done, has_valid_seating, ceremony_in, is_lost, is_in_missing_box, is_duplicate}
use Rattle.kcr_history.specs.Prints.{put_in_order, in_order}

-- the step was signed or passed, and its recorded people are no seating
abbrev pub is_step_wrong : FullView → StepRow → Bool
is_step_wrong view row = is_done row.state && not (has_valid_seating view row (ceremony_in view row.ceremony) row.at)

-- a row of a seating put in its place by its seat
abbrev pub put_row : SeatingRow → List SeatingRow → List SeatingRow
put_row row rows = put_in_order (λ a b. nat_lt a.seat b.seat) row rows

-- the rows of a seating by their seats
abbrev pub rows_in_order : List SeatingRow → List SeatingRow
rows_in_order rows = in_order (λ a b. nat_lt a.seat b.seat) rows

-- more than one row is of the item, of the serial, of the key
abbrev pub is_item_duplicate : List Item → List ℕ → Bool
is_item_duplicate rows item = is_duplicate (λ row. same_text row.code item) rows

abbrev pub is_bag_duplicate : List Bag → List ℕ → Bool
is_bag_duplicate rows serial = is_duplicate (λ row. same_text row.serial serial) rows

abbrev pub is_key_duplicate : List KeyRow → List ℕ → Bool
is_key_duplicate rows key = is_duplicate (λ row. same_text row.key key) rows

-- a key that stands in more than one row; `None` if none does
abbrev pub IsRepeated : List KeyRow → Option (List ℕ) → Type 0
IsRepeated rows None = (key : List ℕ) → is_key_duplicate rows key ≡ false
IsRepeated rows (Some key) = is_key_duplicate rows key ≡ true

-- the item is lost by one of its rows
abbrev pub is_item_lost : FullView → List ℕ → Bool
is_item_lost view item = list_any (λ row. same_text row.code item && is_lost view row.rest) view.view.items.items

-- the item stands in more than one row, or is lost by one
abbrev pub is_item_wrong : FullView → List ℕ → Bool
is_item_wrong view item = is_item_duplicate view.view.items.items item || is_item_lost view item

-- by one of its rows the bag is in a box that is not there
abbrev pub is_bag_in_missing_box : FullView → List ℕ → Bool
is_bag_in_missing_box view serial =
    list_any (λ row. same_text row.serial serial && is_in_missing_box view row.spot) view.view.bags.items

-- the serial stands in more than one row, or by one is in a box that is not there
abbrev pub is_bag_wrong : FullView → List ℕ → Bool
is_bag_wrong view serial = is_bag_duplicate view.view.bags.items serial || is_bag_in_missing_box view serial
