-- Rows in another order: what a test keeps of them, and what they make where they are put one after the other.
use Rattle.std.proofs.Common.{◌≡◌, ℕ, zero, suc, ◌<◌, Bool, true, false, if◌then◌else◌, ◌||◌, List, [], ◌∷◌, map, filter, length, set, get_or, refl}
use Rattle.std.proofs.Common.{sym, ap, ◌∙◌, arith}
use Rattle.std.specs.List.{list_any, swap, Sorted.IsPermutation}
use Rattle.std.proofs.lemmas.{Bool.Decides.nat_tests, List.Sorted.IsPermutation-keeps, List.Sorted.list_any-IsPermutation}
use Rattle.std.proofs.lemmas.List.Sorted.{IsPermutation-refl, IsPermutation-trans, IsPermutation-cons, IsPermutation-map, IsPermutation-middle}
use Rattle.kcr_base.specs.Rows.{put, put_all}
use Rattle.kcr_base.proofs.ListLemmas.{any-map, any-same}

-- LISTS WITH THE SAME ELEMENTS, BY EXCHANGES OF NEIGHBOURS

-- the second list is the first after exchanges of neighbours
pub data Shuffled {X : Type 0} : List X → List X → Type 0 where
  nothing : Shuffled [] []
  under : (x : X) (xs ys : List X) → Shuffled xs ys → Shuffled (x ∷ xs) (x ∷ ys)
  flipped : (x y : X) (xs : List X) → Shuffled (x ∷ y ∷ xs) (y ∷ x ∷ xs)
  after : (xs ys zs : List X) → Shuffled xs ys → Shuffled ys zs → Shuffled xs zs

unmoved : {X : Type 0} (xs : List X) → Shuffled xs xs
unmoved [] = nothing
unmoved (x ∷ xs) = under x xs xs (unmoved xs)

-- the first and another change places
with_first : {X : Type 0} (x : X) (xs : List X) (j : ℕ) (d : X) → j < length xs → Shuffled (x ∷ xs) (get_or xs j d ∷ set xs j x)
with_first x [] j d h = absurd (omega arith)
with_first x (y ∷ xs) zero d h = flipped x y xs
with_first x (y ∷ xs) (suc j) d h = after _ _ _ (flipped x y xs) (after _ _ _ (under y _ _ (with_first x xs j d (omega arith))) (flipped y _ _))

moved : {X : Type 0} (xs : List X) (i j : ℕ) (d : X) → i < length xs → j < length xs → Shuffled xs (set (set xs i (get_or xs j d)) j (get_or xs i d))
moved [] i j d p q = absurd (omega arith)
moved (x ∷ xs) zero zero d p q = unmoved (x ∷ xs)
moved (x ∷ xs) zero (suc j) d p q = with_first x xs j d (omega arith)
moved (x ∷ xs) (suc i) zero d p q = with_first x xs i d (omega arith)
moved (x ∷ xs) (suc i) (suc j) d p q = under x _ _ (moved xs i j d (omega arith) (omega arith))

swapped : {X : Type 0} (xs : List X) (i j : ℕ) → i < length xs → j < length xs → Shuffled xs (swap xs i j)
swapped [] i j p q = absurd (omega arith)
swapped (x ∷ xs) i j p q = moved (x ∷ xs) i j x p q

-- a permutation is made by exchanges of neighbours
pub shuffled : {X : Type 0} (xs ys : List X) → IsPermutation xs ys → Shuffled xs ys
shuffled xs ys p = IsPermutation-keeps xs (Shuffled xs) (unmoved xs) (λ l i j a b s. after xs l (swap l i j) s (swapped l i j a b)) ys p

-- WHAT A TEST KEEPS

kept : {X : Type 0} (test : X → Bool) {xs ys : List X} → Shuffled xs ys → IsPermutation (filter test xs) (filter test ys)
kept test nothing = IsPermutation-refl []
kept test (under x xs ys s) = grind (arith, kept test s, IsPermutation-cons x (filter test xs) (filter test ys) (kept test s))
kept {X} test (flipped x y xs) = grind (arith, IsPermutation-middle (x ∷ []) y (filter test xs), IsPermutation-refl {X = X})
kept test (after xs ys zs s t) = IsPermutation-trans (filter test xs) (filter test ys) (filter test zs) (kept test s) (kept test t)

-- what a test keeps of a list in any order
pub filter-order : {X : Type 0} (test : X → Bool) (xs ys : List X) → IsPermutation xs ys → IsPermutation (filter test xs) (filter test ys)
filter-order test xs ys p = kept test (shuffled xs ys p)

-- ROWS OF ONE KEY

-- the test tells whether two rows have one key
pub record IsKeyTest {X : Type 0} (same : X → X → Bool) : Type 0 where
  pub turns : (x y : X) → same x y ≡ true → same y x ≡ true
  pub joins : (x y z : X) → same x y ≡ true → same y z ≡ true → same x z ≡ true

-- no two rows have one key
abbrev pub Apart : {X : Type 0} → (X → X → Bool) → List X → Type 0
Apart same [] = Unit {0}
Apart same (x ∷ xs) = (list_any (same x) xs ≡ false) × Apart same xs

any-kept : {X : Type 0} (p test : X → Bool) (xs : List X) → list_any p xs ≡ false → list_any p (filter test xs) ≡ false
any-kept p test [] h = refl
any-kept p test (x ∷ xs) h = grind (arith, nat_tests, h, any-kept p test xs)

-- of rows of different keys a test keeps rows of different keys
pub filter-apart : {X : Type 0} (same : X → X → Bool) (test : X → Bool) (xs : List X) → Apart same xs → Apart same (filter test xs)
filter-apart same test [] a = tt
filter-apart same test (x ∷ xs) a = grind (arith, any-kept (same x) test xs a.0, filter-apart same test xs a.1)

-- nor do rows that are made of them, if their keys are the same as before
pub map-apart : {X Y : Type 0} (f : X → Y) (same : X → X → Bool) (also : Y → Y → Bool) → ((x y : X) → also (f x) (f y) ≡ same x y) → (xs : List X)
    → Apart same xs → Apart also (map f xs)
map-apart f same also h [] a = tt
map-apart f same also h (x ∷ xs) a = (any-map _ f xs ∙ any-same _ (same x) xs (h x) ∙ a.0, map-apart f same also h xs a.1)

-- ROWS THAT ARE PUT

module _ {X : Type 0} (same : X → X → Bool) (is : IsKeyTest same) where
  -- the row in place of one of its key
  abbrev over : X → X → X
  over row = λ old. if same row old then row else old

  -- a row put in place of others leaves the keys as they were, and two rows of different keys are put so in either order
  put_so : (x y : X) → same x y ≡ false → (rows : List X)
      → (list_any (same y) (map (over x) rows) ≡ list_any (same y) rows) × (map (over y) (map (over x) rows) ≡ map (over x) (map (over y) rows))
  put_so x y h [] = (refl, refl)
  put_so x y h (old ∷ rows) = grind (arith, h, is.turns, is.joins, put_so x y h rows)

  -- the same row put into rows in another order
  pub put-order : (x : X) (rows others : List X) → IsPermutation rows others → IsPermutation (put same x rows) (put same x others)
  put-order x rows others p = grind (arith, list_any-IsPermutation (same x) _ _ p, IsPermutation-map (over x) _ _ p, IsPermutation-cons x _ _ p)

  put_all-rows : (news rows others : List X) → IsPermutation rows others → IsPermutation (put_all same news rows) (put_all same news others)
  put_all-rows [] rows others p = p
  put_all-rows (x ∷ news) rows others p = put_all-rows news (put same x rows) (put same x others) (put-order x rows others p)

  -- two rows of different keys put in either order
  put-both : (x y : X) → same x y ≡ false → (rows : List X) → IsPermutation (put same y (put same x rows)) (put same x (put same y rows))
  put-both x y h rows =
      grind (arith, h, is.turns y x, put_so x y h rows, put_so y x, IsPermutation-middle (y ∷ []) x rows, IsPermutation-refl {X = X})

  -- rows of different keys in another order: they still are, and put one after the other they give the same rows
  ordered : {xs ys : List X} → Shuffled xs ys → Apart same xs
      → Apart same ys × ((p : X → Bool) → list_any p xs ≡ list_any p ys) × ((zs : List X) → IsPermutation (put_all same xs zs) (put_all same ys zs))
  ordered nothing a = (tt, (λ p. refl), IsPermutation-refl)
  ordered (under x xs ys s) a =
      let o = ordered s a.1 in ((sym (o.1 (same x)) ∙ a.0, o.0), (λ p. ap (λ b. p x || b) (o.1 p)), λ zs. o.2 (put same x zs))
  ordered (flipped x y xs) a = (grind (arith, is.turns), (λ p. grind arith), λ zs. put_all-rows xs _ _ (put-both x y (grind (arith, a.0)) zs))
  ordered (after xs ys zs s t) a =
      let o = ordered s a in
      let m = ordered t o.0 in (m.0, (λ p. o.1 p ∙ m.1 p), λ zs. IsPermutation-trans _ _ _ (o.2 zs) (m.2 zs))

  -- rows of different keys, put in any order, give the same rows
  pub put_all-order : (xs ys rows : List X) → IsPermutation xs ys → Apart same xs → IsPermutation (put_all same xs rows) (put_all same ys rows)
  put_all-order xs ys rows p a = (ordered (shuffled xs ys p) a).2 rows
