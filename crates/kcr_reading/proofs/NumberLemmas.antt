-- Numbers and texts as the database compares them.
use Rattle.kcr_reading.proofs.Common.{eqb-true, nat_tests, ◌≡◌, arith, ℕ, pos, negsuc, ◌&&◌, ◌==◌, not, Bool, true, List, [], ◌∷◌, filter, Option}
use Rattle.kcr_reading.proofs.Common.{Some, None, Ordering, is_lt, Less, Equal, Greater, refl, sym, ap, ◌∙◌, AllByRecursion, is_gt, is_le, is_eq}
use Rattle.kcr_reading.proofs.Common.{nat_cmp, ordering_then, slice_cmp, nat_cmp_total, nat_list_cmp_total, tied_itself, Int, Text, Row, is_true}
use Rattle.kcr_reading.proofs.Common.{from_truth, IsAscending, all_both, ascending-filter, value_cmp-Int, value_cmp-Text, value_cmp_total, then-Equal}
use Rattle.kcr_reading.proofs.Common.{by_key, ties_is, number_ties, bound_of, is_past, is_behind}
use Rattle.std.proofs.lemmas.List.Elements.{recursion_from_All, filter_passes}
use Rattle.sqlite.specs.Order.{value_cmp}
use Rattle.kcr_reading.proofs.OrderLemmas.{later, lt_is, turned}

-- numbers are in the same order as values
pub number_cmp : (a b : ℕ) → value_cmp (Int (pos a)) (Int (pos b)) ≡ nat_cmp a b
number_cmp a b = value_cmp-Int (pos a) (pos b) ∙ grind (arith, nat_tests)

-- the tests of WHERE

-- a number is greater than the bound as a value if and only if it is past the last
pub behind_number : (last : Option ℕ) (n : ℕ) → is_gt (value_cmp (Int (pos n)) (Int (bound_of last))) ≡ is_past last n
behind_number None n = ap is_gt (value_cmp-Int (pos n) (negsuc 0))
behind_number (Some l) n = ap is_gt (number_cmp n l) ∙ sym (lt_is l n ∙ ap is_lt (nat_cmp_total.antisymm l n) ∙ turned (nat_cmp n l))

-- a text is greater than the last as a value if and only if it is behind it
pub behind_text : (last text : List ℕ) → is_gt (value_cmp (Text text) (Text last)) ≡ is_behind (Some last) text
behind_text last text = ap is_gt (value_cmp-Text text last) ∙ sym (ap is_lt (nat_list_cmp_total.antisymm last text) ∙ turned (slice_cmp nat_cmp text last))

-- a number is at most the bound as a value if and only if it is not past the last
pub up_to_number : (last : Option ℕ) (n : ℕ) → is_le (value_cmp (Int (pos n)) (Int (bound_of last))) ≡ not (is_past last n)
up_to_number last n =
    (elim (value_cmp (Int (pos n)) (Int (bound_of last))) as (λ o. is_le o ≡ not (is_gt o)) [ Less ↦ refl | Equal ↦ refl | Greater ↦ refl ])
    ∙ ap not (behind_number last n)

-- numbers are equal as values if and only if they are equal
pub equal_number : (a b : ℕ) → is_eq (value_cmp (Int (pos a)) (Int (pos b))) ≡ (a == b)
equal_number a b = sym (number_ties a b ∙ ties_is _ _)

-- a single test in WHERE passes if and only if it holds
pub one_test : (b : Bool) → (is_true (from_truth (Some b)) && true) ≡ b
one_test b = grind arith

-- a test before others
pub with_tests : (b b' c c' : Bool) → b ≡ b' → c ≡ c' → (is_true (from_truth (Some b)) && c) ≡ (b' && c')
with_tests b b' c c' e f = grind arith

-- keys

-- keys of one column with a text are in the order of their texts
pub text_key : (a b : List ℕ) (xs ys : Row) → by_key 1 (Text a ∷ xs) (Text b ∷ ys) ≡ slice_cmp nat_cmp a b
text_key a b xs ys = then-Equal _ ∙ value_cmp-Text a b

-- behind equal numbers of which both pass one test
same_number : (c d n : ℕ) (o : Ordering) → (c == n) ≡ true → (d == n) ≡ true → ordering_then (value_cmp (Int (pos c)) (Int (pos d))) o ≡ o
same_number c d n o p q =
    ap (λ m. ordering_then (value_cmp (Int (pos m)) (Int (pos d))) o) (eqb-true c n p ∙ sym (eqb-true d n q))
    ∙ ap (λ p. ordering_then p o) (tied_itself value_cmp_total (Int (pos d)))

-- two rows of one ceremony
pub same_ceremony : (ceremony c d a b : ℕ) (xs ys : Row) → (c == ceremony) ≡ true → (d == ceremony) ≡ true
    → by_key 2 (Int (pos c) ∷ Int (pos a) ∷ xs) (Int (pos d) ∷ Int (pos b) ∷ ys) ≡ nat_cmp a b
same_ceremony ceremony c d a b xs ys p q = same_number c d ceremony _ p q ∙ then-Equal _ ∙ number_cmp a b

-- two rows of one step
pub same_step : (ceremony step c s d r a b : ℕ) (xs ys : Row) → ((c == ceremony) && (s == step)) ≡ true → ((d == ceremony) && (r == step)) ≡ true
    → by_key 3 (Int (pos c) ∷ Int (pos s) ∷ Int (pos a) ∷ xs) (Int (pos d) ∷ Int (pos r) ∷ Int (pos b) ∷ ys) ≡ nat_cmp a b
same_step ceremony step c s d r a b xs ys p q =
    same_number c d ceremony _ (grind arith) (grind arith) ∙ same_number s r step _ (grind arith) (grind arith) ∙ then-Equal _ ∙ number_cmp a b

-- those that pass rise if any two that pass do

-- all that a filter keeps pass
pub passing : {X : Type 0} (p : X → Bool) (xs : List X) → AllByRecursion (λ x. p x ≡ true) (filter p xs)
passing p xs = recursion_from_All (λ x. p x ≡ true) (filter p xs) (filter_passes p xs)

rises_where : {X : Type 0} (p : X → Bool) (S : X → X → Type 0) (xs : List X) → AllByRecursion (λ x. p x ≡ true) xs
    → IsAscending (λ a b. p a ≡ true → p b ≡ true → S a b) xs → IsAscending S xs
rises_where p S [] all up = tt
rises_where p S (x ∷ xs) all up = (all_both _ _ (S x) (λ y e s. s all.0 e) xs all.1 up.0, rises_where p S xs all.1 up.1)

-- those that pass rise if each two that pass do
pub rises_among : {X : Type 0} (p : X → Bool) (S : X → X → Type 0) (xs : List X) → IsAscending (λ a b. p a ≡ true → p b ≡ true → S a b) xs
    → IsAscending S (filter p xs)
rises_among p S xs up = rises_where p S (filter p xs) (passing p xs) (ascending-filter _ p xs up)

-- behind the last, as a test and by the order

-- a row is past the last number if and only if it is later in the order of numbers
pub number_later : {X : Type 0} (key : X → ℕ) (last : Option ℕ) (x : X) → is_past last (key x) ≡ later nat_cmp nat_cmp_total key last x
number_later key None x = refl
number_later key (Some l) x = lt_is l (key x)

-- a row is behind the last text if and only if it is later in the order of texts
pub text_later : {X : Type 0} (key : X → List ℕ) (last : Option (List ℕ)) (x : X)
    → is_behind last (key x) ≡ later (slice_cmp nat_cmp) nat_list_cmp_total key last x
text_later key None x = refl
text_later key (Some l) x = refl
