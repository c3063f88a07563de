-- Rows in an order: what stands behind the first of them, and that rows that rise are the rows in order.
use Rattle.kcr_reading.proofs.Common.{◌≡◌, ℕ, ◌+◌, ◌-◌, Bool, true, false, cond, List, [], ◌∷◌, ◌++◌, length, filter, slice_get, get_or, Option, Some}
use Rattle.kcr_reading.proofs.Common.{None, Ordering, Less, is_lt, nat_lt, IsSorted, refl, sym, ap, subst, ◌∙◌, arith, AllByRecursion, IsPermutation}
use Rattle.kcr_reading.proofs.Common.{is_eq, is_gt, nat_cmp, ordering_reverse, IsTotalOrder, nat_tests, nat_cmp_total, tied_itself, on_total}
use Rattle.kcr_reading.proofs.Common.{IsPermutation-sym, IsAscending, all_weaker, all-filter, all-slice_get, filter_all, ascending-get_or}
use Rattle.kcr_reading.proofs.Common.{ascending_weaker, along_permutation, sorted_is-sort_by, put_in_order, in_order, IsNextOf, IsNextBatchOf, Begin}
use Rattle.sqlite_keyed.specs.Lists.{insert_sorted, sort_by}

-- the reverse of an order is less if and only if the order is greater
pub turned : (o : Ordering) → is_lt (ordering_reverse o) ≡ is_gt o
turned o = grind arith

reversed : (o : Ordering) → is_eq (ordering_reverse o) ≡ is_eq o
reversed o = grind arith

-- a number is below another if and only if their order is less
pub lt_is : (a b : ℕ) → nat_lt a b ≡ is_lt (nat_cmp a b)
lt_is a b = grind (arith, nat_tests)

module _ {K : Type 0} (compare : K → K → Ordering) (total : IsTotalOrder compare) {X : Type 0} (key : X → K) where
  abbrev cmp : X → X → Ordering
  cmp a b = compare (key a) (key b)

  abbrev before : X → X → Bool
  before a b = is_lt (cmp a b)

  abbrev pub Rises : X → X → Type 0
  Rises a b = cmp a b ≡ Less

  abbrev pub later : Option K → X → Bool
  later None x = true
  later (Some l) x = is_lt (compare l (key x))

  ranked : IsTotalOrder cmp
  ranked = on_total key total

  lt_is_gt : (a b : X) → before b a ≡ is_gt (cmp a b)
  lt_is_gt a b = ap is_lt (ranked.antisymm b a) ∙ turned (cmp a b)

  -- ---- behind the first of those that stand behind the last are the others of them

  goes_on : (last : Option K) (x y : X) → later last x ≡ true → Rises x y → later last y ≡ true
  goes_on None x y h b = refl
  goes_on (Some l) x y h b = ap is_lt (total.trans l (key x) (key y) (grind arith) b)

  -- where the last moves to the row that was found
  abbrev pub moved : Option K → Option X → Option K
  moved last None = last
  moved last (Some x) = Some (key x)

  gives_later : (last : Option K) (xs : List X) → IsAscending Rises xs → (found : Option X) → found ≡ slice_get (filter (later last) xs) 0
      → IsNextOf (filter (later last) xs) found (filter (later (moved last found)) xs)
  gives_later last [] up None is = (refl, refl)
  gives_later last [] up (Some x) is = absurd (cc)
  gives_later last (y ∷ ys) up found is = go (later last y) refl (gives_later last ys up.1 found) is
    where
      skipped : later last y ≡ false → (f : Option X) → f ≡ slice_get (filter (later last) ys) 0 → later (moved last f) y ≡ false
      skipped e None is = e
      skipped e (Some x) is =
          lt_is_gt y x ∙ ap is_gt (all-slice_get (Rises y) (filter (later last) ys) 0 x (sym is) (all-filter (Rises y) (later last) ys up.0))

      go : (b : Bool) → later last y ≡ b → (found ≡ slice_get (filter (later last) ys) 0
          → IsNextOf (filter (later last) ys) found (filter (later (moved last found)) ys))
          → found ≡ slice_get (cond b (y ∷ filter (later last) ys) (filter (later last) ys)) 0
          → IsNextOf (cond b (y ∷ filter (later last) ys) (filter (later last) ys)) found (filter (later (moved last found)) (y ∷ ys))
      go true e ih is =
          let those : filter (later last) ys ≡ ys = filter_all (later last) ys (all_weaker (Rises y) _ (λ z b. goes_on last y z e b) ys up.0) in
          let rest : filter (later (Some (key y))) ys ≡ ys = filter_all (later (Some (key y))) ys (all_weaker (Rises y) _ (λ z b. ap is_lt b) ys up.0) in
          let itself : later (Some (key y)) y ≡ false = ap is_lt (tied_itself total (key y)) in
          subst (λ (f : Option X). IsNextOf (y ∷ filter (later last) ys) f (filter (later (moved last f)) (y ∷ ys))) (sym is)
          (rw itself (ap (λ l. y ∷ l) (those ∙ sym rest)))
      go false e ih is = rw (skipped e found is) (ih is)

  -- the first of those behind the last is the next row, and behind it come the others
  pub gives_first : (past : Option K → X → Bool) → ((last : Option K) (x : X) → past last x ≡ later last x) → (last : Option K) (xs : List X)
      → IsAscending Rises xs
      → (found : Option X) → found ≡ slice_get (filter (past last) xs) 0 → IsNextOf (filter (past last) xs) found (filter (past (moved last found)) xs)
  gives_first past same last xs up found is =
      let there : (l : Option K) → filter (past l) xs ≡ filter (later l) xs = λ l i. filter (λ x. same l x i) xs in
      rw (there last, there (moved last found)) (gives_later last xs up found (is ∙ ap (λ l. slice_get l 0) (there last)))

  -- ---- the same of several that are given

  -- where the last moves to the last of these rows
  abbrev pub moved_on : Option K → List X → Option K
  moved_on last [] = last
  moved_on last (x ∷ rows) = moved_on (Some (key x)) rows

  -- the last moves over some rows to the last of these
  pub moved_last : (last : Option K) (rows : List X) → moved last (slice_get rows (length rows - 1)) ≡ moved_on last rows
  moved_last last [] = refl
  moved_last last (x ∷ rows) = ap (λ k. moved last (slice_get (x ∷ rows) k)) (omega arith) ∙ on last x rows
    where
      on : (last : Option K) (x : X) (rows : List X) → moved last (slice_get (x ∷ rows) (length rows)) ≡ moved_on (Some (key x)) rows
      on last x [] = refl
      on last x (y ∷ rows) = on last y rows

  -- the last moves over some rows to the row that is found at their end
  pub moved_to : (last : Option K) (rows : List X) (found : Option X) → found ≡ slice_get rows (length rows - 1) → moved_on last rows ≡ moved last found
  moved_to last rows found ends = sym (ap (moved last) ends ∙ moved_last last rows)

  -- behind the first of those that stand behind the last, however many are taken, are the others of them
  pub gives_rest : (past : Option K → X → Bool) → ((last : Option K) (x : X) → past last x ≡ later last x) → (last : Option K) (xs : List X)
      → IsAscending Rises xs → (rows rest : List X) → filter (past last) xs ≡ rows ++ rest → rest ≡ filter (past (moved_on last rows)) xs
  gives_rest past same last xs up [] rest is = sym is
  gives_rest past same last xs up (x ∷ rows) rest is =
      let next = gives_first past same last xs up (Some x) (sym (ap (λ l. slice_get l 0) is)) in
      let more : filter (past (Some (key x))) xs ≡ rows ++ rest = cc in
      gives_rest past same (Some (key x)) xs up rows rest more

  -- the first of the rows past the last are the next ones, and the others come after them
  pub gives_several : (past : Option K → X → Bool) → ((last : Option K) (x : X) → past last x ≡ later last x) → (last : Option K) (xs : List X)
      → IsAscending Rises xs → (rows : List X) → Begin (filter (past last) xs) rows
      → IsNextBatchOf (filter (past last) xs) rows (filter (past (moved_on last rows)) xs)
  gives_several past same last xs up rows begin =
      let next = begin.first ∙ ap (λ l. rows ++ l) (gives_rest past same last xs up rows begin.rest begin.first) in
      record { next = next; ends = λ none. sym (next ∙ ap (λ l. l ++ filter (past (moved_on last rows)) xs) none) ∙ begin.some none }

  -- and none of those that were taken stands behind the last of them
  at_most_last : (k : K) (x : X) → is_lt (compare k (key x)) ≡ false → (rows : List X) → AllByRecursion (Rises x) rows
      → later (moved_on (Some k) rows) x ≡ false
  at_most_last k x h [] all = h
  at_most_last k x h (y ∷ rows) all = at_most_last (key y) x (lt_is_gt x y ∙ ap is_gt all.0) rows all.1

  -- no row that was taken is past the last of them
  pub none_past : (last : Option K) (rows : List X) → IsAscending Rises rows → AllByRecursion (λ x. later (moved_on last rows) x ≡ false) rows
  none_past last [] up = tt
  none_past last (x ∷ rows) up =
      (at_most_last (key x) x (ap is_lt (tied_itself total (key x))) rows up.0, none_past (Some (key x)) rows up.1)

  -- ---- rows in any order, put in order, are the rows that rise

  abbrev pub Apart : X → X → Type 0
  Apart a b = is_eq (cmp a b) ≡ false

  -- that each two are apart holds in any order
  StaysApart : List X → List X → Type 0
  StaysApart xs ys = ((y : X) → AllByRecursion (Apart y) xs → AllByRecursion (Apart y) ys) × (IsAscending Apart xs → IsAscending Apart ys)

  -- if no two rows tie, no two do in another order
  pub apart_on : (xs ys : List X) → IsPermutation xs ys → IsAscending Apart xs → IsAscending Apart ys
  unfolding StaysApart
  apart_on xs ys same =
      (along_permutation StaysApart (λ l. (λ y all. all, λ up. up))
      (λ x l k h. (λ y all. (all.0, h.0 y all.1), λ up. (h.0 x up.0, h.1 up.1)))
      (λ x y l. (λ z all. (all.1.0, (all.0, all.1.1)), λ up. ((ap is_eq (ranked.antisymm y x) ∙ reversed (cmp x y) ∙ up.0.0, up.1.0), (up.0.1, up.1.1))))
      (λ a b c p q. (λ y all. q.0 y (p.0 y all), λ up. q.1 (p.1 up)))
      xs ys same).1

  -- rows that rise are sorted
  pub sorted : (xs : List X) → IsAscending Rises xs → IsSorted cmp xs
  sorted xs up k d low within = lt_is_gt (get_or xs k d) (get_or xs (k + 1) d) ∙ ap is_gt (ascending-get_or Rises xs k (k + 1) d up (omega arith) within)

  put_is : (x : X) (ys : List X) → put_in_order before x ys ≡ insert_sorted cmp x ys
  put_is x [] = refl
  put_is x (y ∷ ys) = λ i. cond (lt_is_gt x y i) (y ∷ put_is x ys i) (x ∷ y ∷ ys)

  order_is : (xs : List X) → in_order before xs ≡ sort_by cmp xs
  order_is [] = refl
  order_is (x ∷ xs) = put_is x (in_order before xs) ∙ ap (insert_sorted cmp x) (order_is xs)

  -- rows in any order, put in order, are the rows that rise
  pub ordered : (xs ys : List X) → IsPermutation xs ys → IsAscending Rises ys → in_order before xs ≡ ys
  ordered xs ys same up =
      let apart : IsAscending Apart xs = apart_on ys xs (IsPermutation-sym _ _ same) (ascending_weaker Rises Apart (λ a b h. ap is_eq h) ys up) in
      order_is xs ∙ sym (sorted_is-sort_by cmp ranked xs ys apart same (sorted ys up))

-- the same for rows that are put in order by a number
pub numbers_ordered : {X : Type 0} (number : X → ℕ) (xs ys : List X) → IsPermutation xs ys → IsAscending (λ a b. nat_cmp (number a) (number b) ≡ Less) ys
    → in_order (λ a b. nat_lt (number a) (number b)) xs ≡ ys
numbers_ordered number xs ys same up = (λ i. in_order (λ a b. lt_is (number a) (number b) i) xs) ∙ ordered nat_cmp nat_cmp_total number xs ys same up
