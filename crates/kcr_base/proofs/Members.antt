-- What is in a list.
use Rattle.std.proofs.Common.{◌≡◌, ℕ, Bool, true, false, List, [], ◌∷◌, ◌++◌, map, filter, find, refl, sym, ◌∙◌, subst, ◌⊎◌, inl, inr, arith}
use Rattle.std.specs.List.{list_any, list_all, Sorted.IsPermutation}
use Rattle.std.proofs.lemmas.Bool.{true≢false, false≢true, false_from_ne_true}
use Rattle.kcr_base.specs.Same.{same_text}
pub use Rattle.kcr_base.specs.Rows.{IsIn}
use Rattle.kcr_base.proofs.RowsLemmas.{Shuffled, nothing, under, flipped, after, shuffled}
use Rattle.kcr_base.proofs.SameLemmas.{same-is, same-itself}

-- an element of two lists together is in the first or in the second
pub in-append : {X : Type 0} (x : X) (xs ys : List X) → IsIn x (xs ++ ys) → IsIn x xs ⊎ IsIn x ys
in-append x [] ys i = inr i
in-append x (z ∷ xs) ys i = grind (arith, in-append x xs ys)

-- an element of the first list is in both together
pub in-front : {X : Type 0} (x : X) (xs ys : List X) → IsIn x xs → IsIn x (xs ++ ys)
in-front x [] ys i = absurd i
in-front x (z ∷ xs) ys i = grind (arith, in-front x xs ys)

-- an element of the second list is in both together
pub in-behind : {X : Type 0} (x : X) (xs ys : List X) → IsIn x ys → IsIn x (xs ++ ys)
in-behind x [] ys i = i
in-behind x (z ∷ xs) ys i = inr (in-behind x xs ys i)

-- an element of the images is the image of an element
pub in-map : {X Y : Type 0} (f : X → Y) (y : Y) (xs : List X) → IsIn y (map f xs) → (x : X) × IsIn x xs × (y ≡ f x)
in-map f y [] i = absurd i
in-map f y (x ∷ xs) i = grind (arith, in-map f y xs)

-- the image of an element is among the images
pub map-in : {X Y : Type 0} (f : X → Y) (x : X) (xs : List X) → IsIn x xs → IsIn (f x) (map f xs)
map-in f x [] i = absurd i
map-in f x (z ∷ xs) i = grind (arith, map-in f x xs)

-- an element that a test keeps is in the list, and passes the test
pub in-filter : {X : Type 0} (test : X → Bool) (x : X) (xs : List X) → IsIn x (filter test xs) → IsIn x xs × (test x ≡ true)
in-filter test x [] i = absurd i
in-filter test x (z ∷ xs) i = grind (arith, in-filter test x xs)

-- an element that passes the test is kept
pub filter-in : {X : Type 0} (test : X → Bool) (x : X) (xs : List X) → IsIn x xs → test x ≡ true → IsIn x (filter test xs)
filter-in test x [] i t = absurd i
filter-in test x (z ∷ xs) i t = grind (arith, filter-in test x xs)

-- TESTS

-- if some element passes a test, here is one that does
pub any-in : {X : Type 0} (test : X → Bool) (xs : List X) → list_any test xs ≡ true → (x : X) × IsIn x xs × (test x ≡ true)
any-in test [] h = absurd (false≢true h)
any-in test (z ∷ xs) h = grind (arith, any-in test xs)

-- if an element passes a test, some element does
pub in-any : {X : Type 0} (test : X → Bool) (x : X) (xs : List X) → IsIn x xs → test x ≡ true → list_any test xs ≡ true
in-any test x [] i t = absurd i
in-any test x (z ∷ xs) i t = grind (arith, in-any test x xs)

-- a text that a test finds in a list is in it
pub listed-in : (k : List ℕ) (ks : List (List ℕ)) → list_any (same_text k) ks ≡ true → IsIn k ks
listed-in k ks h = let a = any-in (same_text k) ks h in subst (λ x. IsIn x ks) (sym (same-is k a.0 a.2)) a.1

-- a text in a list is found by the test
pub in-listed : (k : List ℕ) (ks : List (List ℕ)) → IsIn k ks → list_any (same_text k) ks ≡ true
in-listed k ks i = in-any (same_text k) k ks i (same-itself k)

-- what passes a test passes another
abbrev pub Implies : {X : Type 0} → (X → Bool) → (X → Bool) → Type 0
Implies {X} p q = (x : X) → p x ≡ true → q x ≡ true

-- what no test finds does not pass it
pub none-in : {X : Type 0} (test : X → Bool) (x : X) (xs : List X) → list_any test xs ≡ false → IsIn x xs → test x ≡ false
none-in test x xs h i = false_from_ne_true (test x) (λ e. true≢false (sym (in-any test x xs i e) ∙ h))

-- and if nothing passes it, it finds nothing
pub none-passes : {X : Type 0} (test : X → Bool) (xs : List X) → ((x : X) → IsIn x xs → test x ≡ false) → list_any test xs ≡ false
none-passes test xs h = false_from_ne_true (list_any test xs) (λ e. let a = any-in test xs e in true≢false (sym a.2 ∙ h a.0 a.1))

-- two tests of which each passes if the other does answer alike
pub same-answers : (a b : Bool) → (a ≡ true → b ≡ true) → (b ≡ true → a ≡ true) → a ≡ b
same-answers a b f g = grind arith

-- WHAT AGREES ON A LIST

-- functions that agree on the elements of a list have the same images
pub map-same-in : {X Y : Type 0} (f g : X → Y) (xs : List X) → ((x : X) → IsIn x xs → f x ≡ g x) → map f xs ≡ map g xs
map-same-in f g [] h = refl
map-same-in f g (x ∷ xs) h = rw (h x (inl refl), map-same-in f g xs (λ y i. h y (inr i))) refl

-- if two tests agree on the elements of a list, all pass the one if and only if all pass the other
pub all-same-in : {X : Type 0} (p q : X → Bool) (xs : List X) → ((x : X) → IsIn x xs → p x ≡ q x) → list_all p xs ≡ list_all q xs
all-same-in p q [] h = refl
all-same-in p q (x ∷ xs) h = rw (h x (inl refl), all-same-in p q xs (λ y i. h y (inr i))) refl

-- two tests that agree on the elements of a list find the same element
pub find-same-in : {X : Type 0} (p q : X → Bool) (xs : List X) → ((x : X) → IsIn x xs → p x ≡ q x) → find p xs ≡ find q xs
find-same-in p q [] h = refl
find-same-in p q (x ∷ xs) h = rw (h x (inl refl), find-same-in p q xs (λ y i. h y (inr i))) refl

-- ANOTHER ORDER

-- an element of the exchanged list is in the list
pub in-shuffled : {X : Type 0} (x : X) {xs ys : List X} → Shuffled xs ys → IsIn x ys → IsIn x xs
in-shuffled x nothing i = i
in-shuffled x (under y xs ys s) i = grind (arith, in-shuffled x s)
in-shuffled x (flipped y z xs) i = grind arith
in-shuffled x (after xs ys zs s t) i = in-shuffled x s (in-shuffled x t i)

-- what is in a list is in it in any order
pub in-order : {X : Type 0} (x : X) (xs ys : List X) → IsPermutation xs ys → IsIn x ys → IsIn x xs
in-order x xs ys p i = in-shuffled x (shuffled xs ys p) i
