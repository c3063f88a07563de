-- A text stands for the seats that `seats_of` gives, and for no others.
use Rattle.kcr_script.proofs.Common.{◌≡◌, ℕ, ◌≤◌, inl, inr, Bool, true, false, eqb, leb, List, [], ◌∷◌, ◌++◌, map, length, All, Option, Some, None}
use Rattle.kcr_script.proofs.Common.{IfSome, refl, sym, ap, ◌∙◌, arith, append-nil, flat_map, AllByRecursion, join_with_byte, bytes_decides, le-leb}
use Rattle.kcr_script.proofs.Common.{leb-true, ne_eqb, All-weaker, same_text, Ca, Seat, Staff, Co, Rksh, IsSeat, can_repeat, Item, IsItem, item_text}
use Rattle.kcr_script.proofs.Common.{item_seats, pair_item, joined, Spells, StandsFor, one_to_seven, free_seats, repeated, all_items, item_of}
use Rattle.kcr_script.proofs.Common.{between_semicolons, join_items, seats_of_items, at_most_sixteen, each-append, first-is}
use Rattle.std.proofs.lemmas.Option.{cond_some, option_and_then_some}
use Rattle.std.proofs.lemmas.List.Splits.{slice_split_none, slice_split_at, join_with_byte-slice_split, length-slice_split}
use Rattle.kcr_base.specs.Rows.{IsIn}
use Rattle.kcr_script.specs.Reading.{seats_of}
use Rattle.kcr_script.proofs.SeatLemmas.{Plain, item_plain, one_item, more_items, spells_one, spells_more}

-- ---- the item with a text

-- what holds of 1 to 7, in a list
from_seven : (P : ℕ → Type 0) → ((n : ℕ) → 1 ≤ n → n ≤ 7 → P n) → AllByRecursion P one_to_seven
from_seven P f = search (arith, f)

free_items : (seats : List Seat) → AllByRecursion (λ seat. IsSeat seat × (can_repeat seat ≡ true)) seats → AllByRecursion IsItem (flat_map repeated seats)
free_items [] h = tt
free_items (seat ∷ seats) h =
    each-append IsItem (repeated seat) (flat_map repeated seats) (from_seven (λ n. IsItem (pair_item (seat, n))) (λ n. more_items seat n h.0.0 h.0.1))
    (free_items seats h.1)

nine_seats : AllByRecursion (λ seat. IsSeat seat × (can_repeat seat ≡ true)) free_seats
nine_seats = search (arith, refl {A = Bool})

all_are_items : AllByRecursion IsItem all_items
all_are_items =
    each-append IsItem (flat_map repeated free_seats ++ map (λ n. pair_item (Co n, 1)) one_to_seven) (map (λ n. pair_item (Rksh n, 1)) one_to_seven)
    (each-append IsItem (flat_map repeated free_seats) (map (λ n. pair_item (Co n, 1)) one_to_seven) (free_items free_seats nine_seats)
    (numbered Co (λ n low high. (low, high))))
    (numbered Rksh (λ n low high. (low, high)))
  where
    numbered : (seat_at : ℕ → Seat) → ((n : ℕ) → 1 ≤ n → n ≤ 7 → IsSeat (seat_at n)) → AllByRecursion IsItem (map (λ n. pair_item (seat_at n, 1)) one_to_seven)
    numbered seat_at is = from_seven (λ n. IsItem (pair_item (seat_at n, 1))) (λ n low high. one_item (seat_at n) (is n low high))

item_found : (text : List ℕ) (item : Item) → item_of text ≡ Some item → IsItem item × (item_text item ≡ text)
item_found text item e =
    let f = first-is (λ i. same_text (item_text i) text) IsItem item all_items all_are_items e in (f.1, (bytes_decides (item_text item) text).0 f.0)

-- what holds of each element of a list
each-in : {X : Type 0} (P : X → Type 0) (x : X) (xs : List X) → AllByRecursion P xs → IsIn x xs → P x
each-in P x [] all i = absurd i
each-in P x (y ∷ xs) all (inl e) = rw e all.0
each-in P x (y ∷ xs) all (inr i) = each-in P x xs all.1 i

-- what holds of 1 to 7
of_seven : (P : ℕ → Type 0) → AllByRecursion P one_to_seven → (n : ℕ) → 1 ≤ n → n ≤ 7 → P n
of_seven P all n low high = each-in P n one_to_seven all (grind arith)

abbrev Again : Seat → ℕ → Type 0
Again seat count = item_of (item_text (pair_item (seat, count))) ≡ Some (pair_item (seat, count))

again : (seat : Seat) (count : ℕ) → IsItem (pair_item (seat, count)) → Again seat count
again (Co n) count is =
    let one = of_seven (λ (m : ℕ). Again (Co m) 1) (refl, (refl, (refl, (refl, (refl, (refl, (refl, tt))))))) n is.seat.0 is.seat.1 in
    rw (is.numbered refl) one
again (Rksh n) count is =
    let one = of_seven (λ (m : ℕ). Again (Rksh m) 1) (refl, (refl, (refl, (refl, (refl, (refl, (refl, tt))))))) n is.seat.0 is.seat.1 in
    rw (is.numbered refl) one
again (Staff Ca) count is = of_seven (Again (Staff Ca)) (refl, (refl, (refl, (refl, (refl, (refl, (refl, tt))))))) count is.one is.seven
again other count is = of_seven (Again other) (refl, (refl, (refl, (refl, (refl, (refl, (refl, tt))))))) count is.one is.seven

-- an item is found by its text
pub item_again : (item : Item) → IsItem item → item_of (item_text item) ≡ Some item
item_again item is = again item.seat item.count is

-- ---- the items of a text

no_semicolon : (item : Item) → IsItem item → All (λ b. eqb b 59 ≡ false) (item_text item)
no_semicolon item is = All-weaker Plain (λ b. eqb b 59 ≡ false) (λ b h. ne_eqb b 59 h) (item_text item) (item_plain item is)

pieces : (first : Item) (more : List Item) → IsItem first → AllByRecursion IsItem more → between_semicolons (joined first more) ≡ item_text first
    ∷ map item_text more
pieces first [] is each =
    ap between_semicolons (append-nil (item_text first)) ∙ slice_split_none (λ b. eqb b 59) (item_text first) (no_semicolon first is)
pieces first (next ∷ more) is each =
    slice_split_at (λ b. eqb b 59) (item_text first) 59 (joined next more) (no_semicolon first is) refl ∙ rw (pieces next more each.0 each.1)

their_seats : (items : List Item) → AllByRecursion IsItem items → seats_of_items (map item_text items) ≡ Some (flat_map item_seats items)
their_seats [] each = refl
their_seats (item ∷ items) each = rw (item_again item each.0, their_seats items each.1) refl

-- the seats that a text spells are found by its parts between semicolons
pub spelled : (text : List ℕ) (seats : List Seat) → Spells text seats → seats_of_items (between_semicolons text) ≡ Some seats
spelled text seats h =
    rw (h.text_is, h.seats_are, pieces h.first h.more h.is_first h.each_more) (their_seats (h.first ∷ h.more) (h.is_first, h.each_more))

one_piece : (text : List ℕ) (found : Option Item) → item_of text ≡ found → IfSome (join_items found (Some [])) (Spells text)
one_piece text None e = tt
one_piece text (Some item) e = let f = item_found text item e in rw (← f.1, append-nil (item_seats item)) (spells_one item f.0)

more_pieces : (text rest : List ℕ) (found : Option Item) → item_of text ≡ found
    → (others : Option (List Seat)) → IfSome others (Spells rest) → IfSome (join_items found others) (Spells (text ++ 59 ∷ rest))
more_pieces text rest None e others h = tt
more_pieces text rest (Some item) e None h = tt
more_pieces text rest (Some item) e (Some seats) h = let f = item_found text item e in rw (← f.1) (spells_more item rest seats f.0 h)

-- the texts, joined, are made of the items that are found
spells_pieces : (text : List ℕ) (texts : List (List ℕ)) → IfSome (seats_of_items (text ∷ texts)) (Spells (join_with_byte 59 (text ∷ texts)))
spells_pieces text [] = one_piece text (item_of text) refl
spells_pieces text (next ∷ texts) = more_pieces text (join_with_byte 59 (next ∷ texts)) (item_of text) refl (seats_of_items (next ∷ texts))
    (spells_pieces next texts)

spells_some : (text : List ℕ) (texts : List (List ℕ)) (seats : List Seat) → between_semicolons text ≡ texts → seats_of_items texts ≡ Some seats
    → join_with_byte 59 texts ≡ text → Spells text seats
spells_some text [] seats e h j = absurd (omega (arith, ap length e, length-slice_split (λ b. eqb b 59) text))
spells_some text (piece ∷ texts) seats e h j = rw (← j) (rw h at (spells_pieces piece texts))

-- ---- the seats of a text

-- the seats for which a text stands are read
pub seats_read : (text : List ℕ) (seats : List Seat) → StandsFor text seats → seats_of text ≡ Some seats
unfolding seats_of
seats_read text seats h = rw (spelled text seats h.spells, le-leb (length seats) 16 h.sixteen) refl

-- and what is read are those
pub seats_stand : (text : List ℕ) (seats : List Seat) → seats_of text ≡ Some seats → StandsFor text seats
unfolding seats_of
seats_stand text seats e =
    option_and_then_some {P = StandsFor text seats} at_most_sixteen (seats_of_items (between_semicolons text)) seats e (λ all spelled few.
    (let c = cond_some (leb (length all) 16) all seats few in
    let s = spells_some text (between_semicolons text) all refl spelled (join_with_byte-slice_split 59 text) in
    record { spells = rw (← c.1) s; sixteen = rw (← c.1) (leb-true (length all) 16 c.0) }))

-- what a reader answers that finds the seats of a text, and only those
pub seats_are : (text : List ℕ) (found : Option (List Seat)) → IfSome found (StandsFor text)
    → ((seats : List Seat) → StandsFor text seats → found ≡ Some seats) → found ≡ seats_of text
seats_are text None is only =
    let none = λ (seats : List Seat) (e : seats_of text ≡ Some seats). only seats (seats_stand text seats e) in
    grind (arith, none)
seats_are text (Some seats) is only = sym (seats_read text seats is)
