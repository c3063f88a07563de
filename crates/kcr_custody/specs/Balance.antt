-- Rows put under their keys, and what keeps items from being lost or doubled.
use Rattle.std.specs.Prelude.{ℕ, Bool, true, false, not, ◌&&◌, List, [], ◌∷◌, map, Option, Some, None, is_some, IsTrue}
use Rattle.std.specs.List.{list_any, list_all}
use Rattle.kcr_base.specs.Same.{same_text}
use Rattle.kcr_custody.specs.declared.{BoxRow.BoxRow, Bag.Bag, Item.Item, Spot.Spot, Spot.TheVariants.InBox, Spot.TheVariants.Spent}
use Rattle.kcr_custody.specs.declared.Rest.{Rest, TheVariants.Loose, TheVariants.Within}
use Rattle.kcr_custody.specs.Custody.{is_box, place_of_box_by, spot_by}

-- rows of one key
abbrev pub same_box : BoxRow → BoxRow → Bool
same_box row old = is_box row.facility row.number old

abbrev pub same_bag : Bag → Bag → Bool
same_bag row old = same_text old.serial row.serial

abbrev pub same_item : Item → Item → Bool
same_item row old = same_text old.code row.code

-- no text of the list stands in it twice
abbrev pub all_differ : List (List ℕ) → Bool
all_differ [] = true
all_differ (text ∷ texts) = not (list_any (same_text text) texts) && all_differ texts

-- the bag is there and not spent
abbrev pub holds_items : Option Spot → Bool
holds_items None = false
holds_items (Some Spent) = false
holds_items (Some spot) = true

-- the item is loose, or within a bag that is there and not spent
abbrev pub is_kept : List Bag → Rest → Bool
is_kept bags (Loose facility) = true
is_kept bags (Within serial) = holds_items (spot_by bags serial)

-- a spot in a box names a box that is there
abbrev pub has_its_box : List BoxRow → Spot → Bool
has_its_box boxes (InBox facility number) = is_some (place_of_box_by boxes facility number)
has_its_box boxes spot = true

-- each item in one row, loose or within a bag that is there and not spent; each serial in one row; each box that is
-- named is there
pub record IsBalanced (boxes : List BoxRow) (bags : List Bag) (items : List Item) : Type 0 where
  pub items_once : IsTrue (all_differ (map (λ row. row.code) items))
  pub bags_once : IsTrue (all_differ (map (λ row. row.serial) bags))
  pub kept : IsTrue (list_all (λ row. is_kept bags row.rest) items)
  pub boxed : IsTrue (list_all (λ row. has_its_box boxes row.spot) bags)
