-- The laws of custody: every act keeps balance (`IsBalanced`), and neither a seal nor a cut loses or makes an item.
use Rattle.std.proofs.Common.{◌≡◌, ℕ, Bool, true, false, cond, ◌||◌, List, [], ◌∷◌, map, filter, Some, None, refl, arith}
use Rattle.std.specs.List.{list_any, list_all}
use Rattle.kcr_base.proofs.{ListLemmas.all-more, ListLemmas.any-find, SameLemmas.same-itself, SameLemmas.same-turned}
use Rattle.kcr_base.specs.{Same.same_text, Rows.put, Rows.put_all, declared.place.Facility.Facility}
use Rattle.kcr_custody.specs.declared.{CeremonyStatus.CeremonyStatus, Bag.Bag, Item.Item, Spot.TheVariants.Table, Spot.TheVariants.Spent}
use Rattle.kcr_custody.specs.declared.{SafeRow.SafeRow, BoxRow.BoxRow, Rest.Rest, Rest.TheVariants.Loose}
use Rattle.kcr_custody.specs.declared.Destination.{Destination, TheVariants.SafeOne, TheVariants.DepositBox}
use Rattle.kcr_custody.specs.Custody.{spot_by, rest_by, spot_of_destination, is_within, lies_in, loose_item, sealed_item, loose_items, sealed_items}
use Rattle.kcr_custody.specs.Custody.{add_box_refusal, put_refusal, seal_refusal, unknown_item_refusal}
use Rattle.kcr_custody.specs.Balance.{same_box, same_bag, same_item, holds_items, is_kept, has_its_box, IsBalanced}
use Rattle.kcr_custody.proofs.Puts.{all_put, all_put_all, all_images, any_key, keys_stay_all, differ_put_all, found_in}
use Rattle.std.proofs.Math.Bool.{or-true}

-- BAGS

-- where the bags are after a row is put
spot_put : (b : Bag) (bags : List Bag) (s : List ℕ) → spot_by (put same_bag b bags) s ≡ cond (same_text b.serial s) (Some b.spot) (spot_by bags s)
spot_put b bags s = grind (arith, found_in (λ row. row.serial) b s bags)

-- what was kept is kept after a bag is moved
kept_put : (b : Bag) (bags : List Bag) → holds_items (Some b.spot) ≡ true → (r : Rest) → is_kept bags r ≡ true
    → is_kept (put same_bag b bags) r ≡ true
kept_put b bags u r h = grind (arith, u, h, spot_put b bags)

-- and after another bag is cut
kept_spent : (serial : List ℕ) (bags : List Bag) (r : Rest) → is_kept bags r ≡ true → is_within serial r ≡ false
    → is_kept (put same_bag (record { serial = serial; spot = Spent }) bags) r ≡ true
kept_spent serial bags r h n = grind (arith, h, n, spot_put (record { serial = serial; spot = Spent }) bags, same-turned)

-- a row of the item is among the changes
abbrev is_changed : List Item → Item → Bool
is_changed changes row = list_any (λ c. same_item c row) changes

-- a bag put at a spot whose box is there, and items that are kept then, with each other one
bag_put : (boxes : List BoxRow) (bags : List Bag) (items : List Item) (bag : Bag) (changes : List Item) → has_its_box boxes bag.spot ≡ true
    → list_all (λ row. is_kept (put same_bag bag bags) row.rest) changes ≡ true
    → list_all (λ old. is_kept (put same_bag bag bags) old.rest || is_changed changes old) items ≡ true
    → IsBalanced boxes bags items → IsBalanced boxes (put same_bag bag bags) (put_all same_item changes items)
bag_put boxes bags items bag changes b c k h = record {
  items_once = differ_put_all (λ row. row.code) changes items h.items_once;
  bags_once = differ_put_all (λ row. row.serial) (bag ∷ []) bags h.bags_once;
  kept = all_put_all same_item _ changes items c k;
  boxed = all_put same_bag _ (λ row. has_its_box boxes row.spot) bag b (λ old g. rw g) bags h.boxed;
}

-- a bag that is not spent, and items that are kept then
moved : (boxes : List BoxRow) (bags : List Bag) (items : List Item) (bag : Bag) (changes : List Item) → holds_items (Some bag.spot) ≡ true
    → has_its_box boxes bag.spot ≡ true → list_all (λ row. is_kept (put same_bag bag bags) row.rest) changes ≡ true
    → IsBalanced boxes bags items → IsBalanced boxes (put same_bag bag bags) (put_all same_item changes items)
moved boxes bags items bag changes u b c h =
    bag_put boxes bags items bag changes b c (all-more _ _ items (λ row k. rw (kept_put bag bags u row.rest k)) h.kept) h

-- a bag that is taken, and so laid on the table, keeps balance
pub take_keeps_balance : (facility : Facility) (boxes : List BoxRow) (bags : List Bag) (items : List Item) (serial : List ℕ)
    → IsBalanced boxes bags items → IsBalanced boxes (put same_bag (record { serial = serial; spot = Table facility }) bags) items
take_keeps_balance facility boxes bags items serial h = moved boxes bags items _ [] refl refl refl h

-- a bag that is put away keeps balance, if it is not refused
pub put_keeps_balance : (status : CeremonyStatus) (safes : List SafeRow) (boxes : List BoxRow) (bags : List Bag) (items : List Item) (serial : List ℕ)
    (to : Destination) → IsBalanced boxes bags items → put_refusal status safes boxes bags serial to ≡ None
    → IsBalanced boxes (put same_bag (record { serial = serial; spot = spot_of_destination status.facility to }) bags) items
put_keeps_balance status safes boxes bags items serial SafeOne h n = moved boxes bags items _ [] refl refl refl h
put_keeps_balance status safes boxes bags items serial (DepositBox number) h n = moved boxes bags items _ [] refl (grind arith) refl h

-- BOXES

-- a box that is added keeps balance, if it is not refused
pub add_box_keeps_balance : (boxes : List BoxRow) (bags : List Bag) (items : List Item) (is_full : Bool) (row : BoxRow)
    → IsBalanced boxes bags items → add_box_refusal boxes is_full row ≡ None → IsBalanced (put same_box row boxes) bags items
add_box_keeps_balance boxes bags items is_full row h n = record {
  items_once = h.items_once;
  bags_once = h.bags_once;
  kept = h.kept;
  boxed = grind (arith, all-more _ (λ bag. has_its_box (row ∷ boxes) bag.spot) bags (λ bag g. grind (arith, g)) h.boxed);
}

-- ITEMS

-- an item that is added keeps balance
pub add_item_keeps_balance : (facility : Facility) (boxes : List BoxRow) (bags : List Bag) (items : List Item) (code : List ℕ)
    → IsBalanced boxes bags items → IsBalanced boxes bags (put same_item (record { code = code; rest = Loose facility }) items)
add_item_keeps_balance facility boxes bags items code h = record {
  items_once = differ_put_all (λ row. row.code) (record { code = code; rest = Loose facility } ∷ []) items h.items_once;
  kept = all_put same_item _ (λ row. is_kept bags row.rest) _ refl (λ old g. rw g) items h.kept;
  bags_once = h.bags_once;
  boxed = h.boxed;
}

-- a seal keeps balance: the bag is on the table then, and the items are within it
pub seal_keeps_balance : (facility : Facility) (boxes : List BoxRow) (bags : List Bag) (items : List Item) (serial : List ℕ) (codes : List (List ℕ))
    → IsBalanced boxes bags items
    → IsBalanced boxes (put same_bag (record { serial = serial; spot = Table facility }) bags) (put_all same_item (sealed_items serial codes) items)
seal_keeps_balance facility boxes bags items serial codes h =
    let b : Bag = record { serial = serial; spot = Table facility } in
    moved boxes bags items b (sealed_items serial codes) refl refl
    (all_images (λ row. is_kept (put same_bag b bags) row.rest) (sealed_item serial) (λ _. rw (spot_put b bags serial, same-itself serial)) codes) h

-- where a bag's items are loosened, an item that passed a test passes another, if all outside do, or is among the loosened
kept_or_loose : (P Q : Item → Bool) (s : List ℕ) (to : Facility) → ((row : Item) → P row ≡ true → lies_in s row ≡ false → Q row ≡ true)
    → (items : List Item) → list_all P items ≡ true → list_all (λ old. Q old || is_changed (loose_items items s to) old) items ≡ true
kept_or_loose P Q s to f [] h = refl
kept_or_loose P Q s to f (row ∷ rows) h =
    grind (
      arith,
      h,
      f row,
      same-itself row.code,
      kept_or_loose P Q s to f rows,
      all-more
          (λ old. Q old || is_changed (loose_items rows s to) old) (λ old. Q old || is_changed (row ∷ loose_items rows s to) old)
          rows (λ old g. grind (arith, g)),
    )

-- a cut keeps balance: the bag is spent then, and the items that it held are loose
pub cut_keeps_balance : (facility : Facility) (boxes : List BoxRow) (bags : List Bag) (items : List Item) (serial : List ℕ)
    → IsBalanced boxes bags items
    → IsBalanced boxes (put same_bag (record { serial = serial; spot = Spent }) bags) (put_all same_item (loose_items items serial facility) items)
cut_keeps_balance facility boxes bags items serial h =
    bag_put boxes bags items _ (loose_items items serial facility) refl
    (all_images _ (loose_item facility) (λ row. refl) (filter (lies_in serial) items))
    (kept_or_loose _ _ serial facility (λ row. kept_spent serial bags row.rest) items h.kept) h

-- NO ITEM IS LOST

abbrev is_there : List Item → Item → Bool
is_there items c = list_any (same_text c.code) (map (λ row. row.code) items)

packed_there : (items : List Item) (serial : List ℕ) (codes : List (List ℕ)) → unknown_item_refusal (rest_by items) codes ≡ None
    → list_all (is_there items) (sealed_items serial codes) ≡ true
packed_there items serial [] h = refl
packed_there items serial (code ∷ codes) h = grind (
  arith,
  h,
  any_key (λ row. row.code) code items,
  any-find (λ row. same_text row.code code) items,
  packed_there items serial codes,
)

-- a seal that is not refused neither loses nor makes an item
pub seal_leaves_items : (status : CeremonyStatus) (bags : List Bag) (items : List Item) (serial : List ℕ) (codes : List (List ℕ))
    → seal_refusal status bags items serial codes ≡ None
    → map (λ row. row.code) (put_all same_item (sealed_items serial codes) items) ≡ map (λ row. row.code) items
seal_leaves_items status bags items serial codes n =
    keys_stay_all (λ row. row.code) _ (sealed_items serial codes) items refl (packed_there items serial codes (grind arith))

loosened_there : (serial : List ℕ) (facility : Facility) (items : List Item) → list_all (is_there items) (loose_items items serial facility) ≡ true
loosened_there serial facility [] = refl
loosened_there serial facility (row ∷ rows) = grind (
  arith,
  same-itself row.code,
  loosened_there serial facility rows,
  all-more (is_there rows) (is_there (row ∷ rows)) (loose_items rows serial facility) (λ c g. rw g (or-true _)),
)

-- a cut neither loses nor makes an item
pub cut_leaves_items : (serial : List ℕ) (facility : Facility) (items : List Item)
    → map (λ row. row.code) (put_all same_item (loose_items items serial facility) items) ≡ map (λ row. row.code) items
cut_leaves_items serial facility items =
    keys_stay_all (λ row. row.code) _ (loose_items items serial facility) items refl (loosened_there serial facility items)
