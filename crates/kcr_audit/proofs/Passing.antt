-- Nothing is found in the tables of a register.
use Rattle.kcr_audit.proofs.Common.{◌≡◌, ℕ, ◌≤◌, Bool, true, false, cond, not, ◌||◌, ◌&&◌, List, [], ◌∷◌, map, Option, Some, is_some, refl, sym, ap}
use Rattle.kcr_audit.proofs.Common.{◌∙◌, arith, rules, unwrap_or, list_any, count_by, IsPermutation, true≢false, and_parts, and_right, not-true}
use Rattle.kcr_audit.proofs.Common.{list_any-IsPermutation, sum_by-IsPermutation, same_text, count-cons, map-map, same-is, same-itself, same-turned}
use Rattle.kcr_audit.proofs.Common.{any-same, any-map, any-more, KeyRow, FullView, Finding, IsTrueOf, is_duplicate, is_bag_there, is_lost}
use Rattle.kcr_audit.proofs.Common.{is_in_missing_box, History, values_of_acts, is_kept, has_its_box, boxes, bags, bag_row, sealed_serial, item_row}
use Rattle.kcr_audit.proofs.Common.{added_item, keys, key_row, tables, SameTables, IsRegister, rooms, tables_of}
use Rattle.kcr_custody.specs.{Balance.all_differ, Balance.holds_items, Custody.is_box}
use Rattle.kcr_custody.specs.declared.{Bag.Bag, Rest.Rest, Rest.TheVariants.Loose, Spot.Spot, Spot.TheVariants.InBox, Spot.TheVariants.Spent}
use Rattle.kcr_base.specs.declared.place.Facility.TheVariants.{East}
use Rattle.kcr_history.specs.declared.views.Finding.TheVariants as Findings
use Rattle.kcr_history.specs.Custody.{spot, rest}
use Rattle.kcr_laws.proofs.{Once.once, Balance.balanced, Stored.sealed_somewhere, Stored.box-there}
use Rattle.kcr_audit.proofs.{Alike.shown-crowd, Filed.no-seating, Found.none-counted}

-- DOUBLED

-- if all texts differ, at most one row has the text
differ-once : {X : Type 0} (key : X → List ℕ) (text : List ℕ) (xs : List X) → all_differ (map key xs) ≡ true → count_by (λ x. same_text (key x) text) xs ≤ 1
differ-once key text [] h = omega arith
differ-once key text (x ∷ xs) h = by_test (same_text (key x) text) refl (differ-once key text xs p.1)
  where
    p : (not (list_any (same_text (key x)) (map key xs)) ≡ true) × (all_differ (map key xs) ≡ true)
    p = and_parts (not (list_any (same_text (key x)) (map key xs))) (all_differ (map key xs)) h

    others : same_text (key x) text ≡ true → list_any (λ y. same_text (key y) text) xs ≡ false
    others e = grind (arith, any-same, same-turned, any-map, same-is, not-true, p)

    by_test : (b : Bool) → same_text (key x) text ≡ b → count_by (λ y. same_text (key y) text) xs ≤ 1 → count_by (λ y. same_text (key y) text) (x ∷ xs) ≤ 1
    by_test true e ih = let next = count-cons (λ y. same_text (key y) text) x xs true e in let none = none-counted (λ y. same_text (key y) text) xs
        (others e) in omega arith
    by_test false e ih = let next = count-cons (λ y. same_text (key y) text) x xs false e in omega arith

not-doubled : {X : Type 0} (key : X → List ℕ) (text : List ℕ) (rows shown : List X) → all_differ (map key rows) ≡ true → IsPermutation rows shown
    → is_duplicate (λ x. same_text (key x) text) shown ≡ true → ⊥
not-doubled key text rows shown h p d =
    let same = sum_by-IsPermutation (λ x. cond (same_text (key x) text) 1 0) rows shown p in grind (arith, differ-once key text rows h)

-- ROWS THAT ARE MADE OF TEXTS

-- if none of the texts makes a row that passes, none of the rows does
none-made : {X : Type 0} (p : X → Bool) (make : List ℕ → X) (texts : List (List ℕ))
    → ((text : List ℕ) → list_any (same_text text) texts ≡ true → p (make text) ≡ false) → list_any p (map make texts) ≡ false
none-made p make [] f = refl
none-made p make (text ∷ texts) f = grind (arith, f, same-itself text, none-made p make texts)

-- a row that is there passes
one-made : {X : Type 0} (p : X → Bool) (make : List ℕ → X) (text : List ℕ) (texts : List (List ℕ))
    → list_any (λ t. same_text t text) texts ≡ true → p (make text) ≡ true → list_any p (map make texts) ≡ true
one-made p make text texts m f = search (rules, any-map, any-more, same-is)

own-texts : {X : Type 0} (key : X → List ℕ) (make : List ℕ → X) (texts : List (List ℕ)) → ((text : List ℕ) → key (make text) ≡ text)
    → map key (map make texts) ≡ texts
own-texts key make [] own = refl
own-texts key make (text ∷ texts) own = rw (own text, own-texts key make texts own)

-- if one row is made of each text, the texts differ and no row that is made is bad, none is to be told of
none-wrong : {X : Type 0} (key : X → List ℕ) (make : List ℕ → X) (bad : X → Bool) (texts : List (List ℕ)) (shown : List X)
    → ((text : List ℕ) → key (make text) ≡ text) → all_differ texts ≡ true → IsPermutation (map make texts) shown
    → ((text : List ℕ) → list_any (same_text text) texts ≡ true → bad (make text) ≡ false) → (text : List ℕ)
    → (is_duplicate (λ x. same_text (key x) text) shown || list_any (λ x. same_text (key x) text && bad x) shown) ≡ true → ⊥
none-wrong key make bad texts shown own differ p good text t =
    let same = list_any-IsPermutation (λ x. same_text (key x) text && bad x) (map make texts) shown p in
    let none = none-made (λ x. same_text (key x) text && bad x) make texts
    (λ made m. and_right (same_text (key (make made)) text) (bad (make made)) (good made m)) in
    grind (arith, not-doubled key text (map make texts) shown, own-texts key make texts own)

-- BY THE KIND OF FINDING

holding : (o : Option Spot) → holds_items o ≡ true → (is_some o ≡ true) × (holds_items (Some (unwrap_or o Spent)) ≡ true)
holding o h = grind (arith, true≢false)

module _ (A : History) (h : IsRegister A) (view : FullView) (same : SameTables (tables A) (tables_of view)) where
  -- a bag of the register is in a box that is there
  boxed-bag : (o : Option Spot) → has_its_box A o ≡ true → is_in_missing_box view (unwrap_or o Spent) ≡ false
  boxed-bag (Some (InBox f n)) e = grind (arith, list_any-IsPermutation (is_box f n) (boxes A) view.view.boxes.items same.boxes, box-there A f n)
  boxed-bag other e = refl

  -- a bag of the register that is not spent is there
  bag-there : (serial : List ℕ) → holds_items (spot A serial) ≡ true → is_bag_there view serial ≡ true
  bag-there serial e =
      let is_there = λ (bag : Bag). same_text bag.serial serial && holds_items (Some bag.spot) in
      let shown = list_any-IsPermutation is_there (bags A) view.view.bags.items same.bags in
      grind (arith, holding, same-itself serial, one-made is_there (bag_row A) serial (values_of_acts sealed_serial A), sealed_somewhere A h serial)

  kept-item : (o : Option Rest) → is_kept A o ≡ true → is_lost view (unwrap_or o (Loose East)) ≡ false
  kept-item o k = grind (arith, bag-there)

  -- no finding is true of the rows of a register
  pub passing : (finding : Finding) → IsTrueOf view finding → ⊥
  passing (Findings.Seating c s) t = no-seating A h view same c s t
  passing (Findings.Custody item) t =
      none-wrong (λ row. row.code) (item_row A) (λ row. is_lost view row.rest) (values_of_acts added_item A) view.view.items.items (λ i. refl)
      (balanced A h).added_once same.items (λ i m. kept-item (rest A i) (((balanced A h).added_kept i).0 m)) item t
  passing (Findings.Bag serial) t =
      none-wrong (λ row. row.serial) (bag_row A) (λ row. is_in_missing_box view row.spot) (values_of_acts sealed_serial A) view.view.bags.items (λ s. refl)
      (balanced A h).sealed_once same.bags (λ s m. boxed-bag (spot A s) ((balanced A h).boxed s)) serial t
  passing (Findings.Key key) t =
      not-doubled (λ row. row.key) key (keys A) view.keys.items (ap all_differ (map-map (λ (row : KeyRow). row.key) key_row A) ∙ once A h) same.keys t
  passing (Findings.Lone c m) t = (rooms A h c m).0 (sym (shown-crowd A h view.sheet.items same.sheet c m) ∙ t)
  passing (Findings.Crowd c m) t = grind (arith, shown-crowd A h view.sheet.items same.sheet c m, (rooms A h c m).1)
