-- How a text of items begins.
use Rattle.kcr_script.proofs.Common.{◌≡◌, ◌≢◌, ℕ, ◌+◌, ◌≤◌, Bool, true, cond, eqb, List, [], ◌∷◌, ◌++◌, length, replicate, Option, Some, None, refl}
use Rattle.kcr_script.proofs.Common.{sym, ap, ◌∙◌, arith, All, append_assoc, append-nil, length-append, flat_map, AllByRecursion, length-replicate}
use Rattle.kcr_script.proofs.Common.{All-head, All-tail, All-nil, All-append, All-same, All-from_recursion, All-replicate, both_ways, Seat, seat_text}
use Rattle.kcr_script.proofs.Common.{IsSeat, can_repeat, Item, IsItem, star_text, item_text, after_semicolon, joined, item_seats, pair_item, Spells}
use Rattle.kcr_script.proofs.Common.{StandsFor, IsSeats, Leads, IsLast}
use Rattle.std.specs.Option.{MatchOption}
use denote.Ref.{Bor}

-- ITEMS

-- one seat is an item
pub one_item : (seat : Seat) → IsSeat seat → IsItem (pair_item (seat, 1))
one_item seat is = record { seat = is; one = omega arith; seven = omega arith; numbered = λ e. refl }

-- one to seven of a seat that can be repeated are an item
pub more_items : (seat : Seat) (count : ℕ) → IsSeat seat → can_repeat seat ≡ true → 1 ≤ count → count ≤ 7 → IsItem (pair_item (seat, count))
more_items seat count is free low high = record { seat = is; one = low; seven = high; numbered = λ e. absurd (both_ways _ e free) }

-- no semicolon
abbrev pub Plain : ℕ → Type 0
Plain b = b ≢ 59

seat_plain : (s : Seat) → IsSeat s → AllByRecursion Plain (seat_text s)
seat_plain s h = grind arith

star_plain : (n : ℕ) → n ≤ 7 → (b : Bool) → AllByRecursion Plain (cond b [] (42 ∷ (48 + n) ∷ []))
star_plain n h b = grind arith

-- an item has no semicolon
pub item_plain : (item : Item) → IsItem item → All Plain (item_text item)
item_plain item h =
    All-append Plain (seat_text item.seat) (star_text item.count) (All-from_recursion Plain _ (seat_plain item.seat h.seat))
    (All-from_recursion Plain _ (star_plain item.count h.seven (eqb item.count 1)))

-- a text is cut at its first semicolon in one way
cut_same : (a b x y : List ℕ) → All Plain a → All Plain b → a ++ 59 ∷ x ≡ b ++ 59 ∷ y → (a ≡ b) × (x ≡ y)
cut_same [] [] x y fa fb e = (refl, cc)
cut_same [] (c ∷ b) x y fa fb e = grind (arith, All-head Plain c b fb)
cut_same (c ∷ a) [] x y fa fb e = grind (arith, All-head Plain c a fa)
cut_same (c ∷ a) (d ∷ b) x y fa fb e = grind (arith, cut_same a b x y (All-tail Plain c a fa) (All-tail Plain d b fb))

cut_none : (a x b : List ℕ) → All Plain b → a ++ 59 ∷ x ≡ b → ⊥
cut_none [] x [] f e = cc
cut_none [] x (c ∷ b) f e = grind (arith, All-head Plain c b f)
cut_none (d ∷ a) x [] f e = cc
cut_none (d ∷ a) x (c ∷ b) f e = grind (arith, cut_none a x b (All-tail Plain c b f))

-- a text of one item, and one of an item before others
pub spells_one : (item : Item) → IsItem item → Spells (item_text item) (item_seats item)
spells_one item is = record {
  first = item;
  more = [];
  is_first = is;
  each_more = tt;
  text_is = sym (append-nil (item_text item));
  seats_are = sym (append-nil (item_seats item));
}

-- an item's text before a semicolon and a text of items spells the seats of all
pub spells_more : (item : Item) (rest : List ℕ) (seats : List Seat) → IsItem item → Spells rest seats
    → Spells (item_text item ++ 59 ∷ rest) (item_seats item ++ seats)
spells_more item rest seats is h = record {
  first = item;
  more = h.first ∷ h.more;
  is_first = is;
  each_more = (h.is_first, h.each_more);
  text_is = ap (λ (t : List ℕ). item_text item ++ 59 ∷ t) h.text_is;
  seats_are = ap (λ (xs : List Seat). item_seats item ++ xs) h.seats_are;
}

-- what is known of the first item by its text
abbrev pub Only : List ℕ → Option (Seat × ℕ) → Type 0
Only front found = (item : Item) → IsItem item → item_text item ≡ front → found ≡ Some (item.seat, item.count)

-- the text is that of an item, of which this holds
record HasItem (text : List ℕ) (P : Item → Type 0) : Type 0 where
  item : Item
  is : IsItem item
  text_is : item_text item ≡ text
  holds : P item

-- the items of a text without a semicolon are one
whole_item : (text : List ℕ) (all : List Seat) → All Plain text → Spells text all → HasItem text (λ item. all ≡ item_seats item)
whole_item text all free h = by h.more h.text_is h.seats_are
  where
    by : (more : List Item) → text ≡ joined h.first more → all ≡ item_seats h.first ++ flat_map item_seats more → HasItem text (λ item. all ≡ item_seats item)
    by [] t s = record { item = h.first; is = h.is_first; text_is = sym (t ∙ append-nil (item_text h.first)); holds = s ∙ append-nil (item_seats h.first) }
    by (item ∷ more) t s = absurd (cut_none (item_text h.first) (item_text item ++ flat_map after_semicolon more) text free (sym t))

-- the first item of a text with a semicolon, and the rest
abbrev Before : List ℕ → List Seat → Item → Type 0
Before rest all item = (seats : List Seat) × Spells rest seats × (all ≡ item_seats item ++ seats)

first_item : (front rest : List ℕ) (all : List Seat) → All Plain front → Spells (front ++ 59 ∷ rest) all → HasItem front (Before rest all)
first_item front rest all free h = by h.more h.each_more h.text_is h.seats_are
  where
    by : (more : List Item) → AllByRecursion IsItem more → front ++ 59 ∷ rest ≡ joined h.first more → all ≡ item_seats h.first ++ flat_map item_seats more
        → HasItem front (Before rest all)
    by [] each t s = absurd (cut_none front rest (item_text h.first) (item_plain h.first h.is_first) (t ∙ append-nil (item_text h.first)))
    by (item ∷ more) each t s =
        let r = cut_same front (item_text h.first) rest (joined item more) free (item_plain h.first h.is_first) t in
        let spells : Spells rest (flat_map item_seats (item ∷ more)) =
        record { first = item; more = more; is_first = each.0; each_more = each.1; text_is = r.1; seats_are = refl } in
        record { item = h.first; is = h.is_first; text_is = sym r.0; holds = (flat_map item_seats (item ∷ more), spells, s) }

-- ---- what a step of the reader answers

same_replicate : (item : Item) (seat : Seat) (count : ℕ) → ◌≡◌ {A = Option (Seat × ℕ)} (Some (seat, count)) (Some (item.seat, item.count))
    → item_seats item ≡ replicate count seat
same_replicate item seat count e = grind arith

-- the text is cut behind its front, if a rest is left
abbrev IsCut : List ℕ → List ℕ → Option (Bor (List ℕ)) → Type 0
IsCut text front rest = MatchOption rest (text ≡ front) (λ r. text ≡ front ++ 59 ∷ r.now)

abbrev Goes : List ℕ → Seat → ℕ → Option (Bor (List ℕ)) → Type 0
Goes text seat count rest = MatchOption rest (IsLast text seat count) (λ r. Leads text seat count r.now)

-- a text whose front is not that of an item spells no seats
pub step_none : (text front : List ℕ) (rest : Option (Bor (List ℕ))) → All Plain front → IsCut text front rest → Only front None → (all : List Seat)
    → Spells text all → ⊥
step_none text front None free e only all h = let r = whole_item front all free (rw e at h) in let clash = only r.item r.is r.text_is in cc
step_none text front (Some rest) free e only all h = let r = first_item front rest.now all free (rw e at h) in let clash = only r.item r.is r.text_is in cc

-- a text whose front is that of an item goes on with its rest, or ends there
pub step_some : (text front : List ℕ) (rest : Option (Bor (List ℕ))) (seat : Seat) (count : ℕ) → All Plain front → IsCut text front rest
    → IsItem (pair_item (seat, count)) → item_text (pair_item (seat, count)) ≡ front → Only front (Some (seat, count)) → Goes text seat count rest
step_some text front None seat count free e is t only = record {
  count_at_most = is.seven;
  spells = rw (e, ← t) (spells_one (pair_item (seat, count)) is);
  only = λ all h. let r = whole_item front all free (rw e at h) in r.holds ∙ same_replicate r.item seat count (only r.item r.is r.text_is);
}
step_some text front (Some rest) seat count free e is t only = record {
  count_at_most = is.seven;
  shorter = omega (arith, ap length e, length-append front (59 ∷ rest.now));
  on = λ seats h. rw (e, ← t) (spells_more (pair_item (seat, count)) rest.now seats is h);
  back = λ all h. let r = first_item front rest.now all free (rw e at h) in
      (r.holds.0, r.holds.1, r.holds.2 ∙ ap (λ (xs : List Seat). xs ++ r.holds.0) (same_replicate r.item seat count (only r.item r.is r.text_is)));
}

-- the seats of a text begin with those of its first item
pub step_front : (rest : List ℕ) (seat : Seat) (count : ℕ) (more : Option (Bor (List ℕ))) → Goes rest seat count more
    → (all : List Seat) → Spells rest all → (tail : List Seat) × (all ≡ replicate count seat ++ tail)
step_front rest seat count None h all s = ([], h.only all s ∙ sym (append-nil (replicate count seat)))
step_front rest seat count (Some r) h all s = let b = h.back all s in (b.0, b.2)

-- the seats done, with those of the next item, are at most all
pub more_than : (all done tail back : List Seat) (seat : Seat) (count : ℕ) → all ≡ done ++ tail → tail ≡ replicate count seat ++ back
    → length done + count ≤ length all
more_than all done tail back seat count e f =
    omega (arith, ap length e, length-append done tail, ap length f, length-append (replicate count seat) back, length-replicate count seat)

-- the steps of the loop, on the two facts that it keeps
module _ (text rest : List ℕ) (done new : List Seat) (seat : Seat) (count : ℕ) (e : new ≡ done ++ replicate count seat) where
  -- the seats done, the item's own and those of the text after it are seats of the whole text
  pub on_step : (after : List ℕ) → ((tail : List Seat) → Spells rest tail → Spells text (done ++ tail)) → Leads rest seat count after
      → (tail : List Seat) → Spells after tail → Spells text (new ++ tail)
  on_step after on leads tail h =
      let all = on (replicate count seat ++ tail) (leads.on tail h) in
      rw (e, append_assoc done (replicate count seat) tail) all

  abbrev Back : List ℕ → List Seat → Type 0
  Back left before = (all : List Seat) → Spells text all → (tail : List Seat) × Spells left tail × (all ≡ before ++ tail)

  -- all seats of the text are those done, the item's own, and some of what comes after it
  pub back_step : (after : List ℕ) → Back rest done → Leads rest seat count after → Back after new
  back_step after back leads all h =
      let b = back all h in
      let l = leads.back b.0 b.1 in
      (l.0, l.1, grind (arith, append_assoc done (replicate count seat) l.0))

  -- if the item is the last, all seats of the text are those done and the item's own
  pub last_step : Back rest done → IsLast rest seat count → (all : List Seat) → Spells text all → new ≡ all
  last_step back last all h = let b = back all h in e ∙ ap (λ (xs : List Seat). done ++ xs) (sym (last.only b.0 b.1)) ∙ sym b.2

-- ---- what a text can stand for

items_seats : (items : List Item) → AllByRecursion IsItem items → All IsSeat (flat_map item_seats items)
items_seats [] h = All-nil IsSeat
items_seats (item ∷ more) h = All-append IsSeat (item_seats item) (flat_map item_seats more) (All-replicate IsSeat item.count item.seat h.0.seat)
    (items_seats more h.1)

-- the seats that a text stands for are from 1 to 16 seats
pub stands_are_seats : (text : List ℕ) (seats : List Seat) → StandsFor text seats → IsSeats seats
stands_are_seats text seats h =
    let s = h.spells in
    record {
      some_seat = omega (arith, ap length s.seats_are, length-append {A = Seat}, length-replicate {A = Seat}, s.is_first.one);
      sixteen = h.sixteen;
      each = All-same IsSeat seats (item_seats s.first ++ flat_map item_seats s.more) s.seats_are (items_seats (s.first ∷ s.more) (s.is_first, s.each_more));
    }
