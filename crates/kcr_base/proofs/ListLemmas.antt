-- What tests find in lists.
use Rattle.std.proofs.Common.{◌≡◌, Bool, true, false, List, [], ◌∷◌, ◌++◌, map, find, Option, Some, None, is_some, is_none, refl, arith, ◌⊎◌, cond}
use Rattle.std.specs.List.{list_any, list_all, AllByRecursion, Sorted.IsPermutation}
use Rattle.std.proofs.lemmas.Bool.{false≢true, Decides.nat_tests}
use Rattle.std.proofs.lemmas.List.Elements.{All-from_recursion, recursion_from_All, All-append, All-weaker}
use Rattle.std.proofs.lemmas.List.{Sums.AllPass-from_list_all, Sums.list_all-from_AllPass, Sorted.All-permutation, Sorted.list_any-IsPermutation}
use Rattle.kcr_base.specs.Rows.{option_or}

-- WHETHER SOME OR ALL PASS

-- some image passes the test if and only if some element has an image that does
pub any-map : {X Y : Type 0} (p : Y → Bool) (f : X → Y) (xs : List X) → list_any p (map f xs) ≡ list_any (λ x. p (f x)) xs
any-map p f [] = refl
any-map p f (x ∷ xs) = rw (any-map p f xs)

-- of two tests that answer alike, some element passes the one if and only if some passes the other
pub any-same : {X : Type 0} (p q : X → Bool) (xs : List X) → ((x : X) → p x ≡ q x) → list_any p xs ≡ list_any q xs
any-same p q [] f = refl
any-same p q (x ∷ xs) f = rw (f x, any-same p q xs f)

-- functions that agree have the same images
pub map-same : {X Y : Type 0} (f g : X → Y) (xs : List X) → ((x : X) → f x ≡ g x) → map f xs ≡ map g xs
map-same f g [] same = refl
map-same f g (x ∷ xs) same = rw (same x, map-same f g xs same)

-- what passes one test passes the other
pub any-more : {X : Type 0} (p q : X → Bool) (xs : List X) → ((x : X) → p x ≡ true → q x ≡ true) → list_any p xs ≡ true → list_any q xs ≡ true
any-more p q [] f h = absurd (false≢true h)
any-more p q (x ∷ xs) f h = grind (arith, nat_tests, h, f x, any-more p q xs f)

-- if all elements pass the first test, all pass the second
pub all-more : {X : Type 0} (p q : X → Bool) (xs : List X) → ((x : X) → p x ≡ true → q x ≡ true) → list_all p xs ≡ true → list_all q xs ≡ true
all-more p q xs f h = list_all-from_AllPass q xs (All-weaker (λ x. p x ≡ true) (λ x. q x ≡ true) f xs (AllPass-from_list_all p xs h))

-- what holds of the elements of two lists holds of those of both together
pub each-append : {X : Type 0} (P : X → Type 0) (xs ys : List X) → AllByRecursion P xs → AllByRecursion P ys → AllByRecursion P (xs ++ ys)
each-append P xs ys h k = recursion_from_All P (xs ++ ys) (All-append P xs ys (All-from_recursion P xs h) (All-from_recursion P ys k))

-- what holds of each element holds of each if it is weaker
pub each-weaker : {X : Type 0} (P Q : X → Type 0) → ((x : X) → P x → Q x) → (xs : List X) → AllByRecursion P xs → AllByRecursion Q xs
each-weaker P Q f xs h = recursion_from_All Q xs (All-weaker P Q f xs (All-from_recursion P xs h))

-- THE FIRST THAT PASSES

-- one passes if the first that does is found
pub any-find : {X : Type 0} (test : X → Bool) (xs : List X) → list_any test xs ≡ is_some (find test xs)
any-find test [] = refl
any-find test (x ∷ xs) = grind (arith, any-find test xs)

-- nothing is found if no element passes
pub find-none : {X : Type 0} (test : X → Bool) (xs : List X) → list_any test xs ≡ false → find test xs ≡ None
find-none test xs h = grind (arith, h, any-find test xs)

-- no element passes if nothing is found
pub none-find : {X : Type 0} (test : X → Bool) (xs : List X) → find test xs ≡ None → list_any test xs ≡ false
none-find test xs h = grind (arith, h, any-find test xs)

-- some element passes if one is found
pub some-find : {X : Type 0} (test : X → Bool) (x : X) (xs : List X) → find test xs ≡ Some x → list_any test xs ≡ true
some-find test x xs h = grind (arith, any-find test xs)

-- the first that passes a test is the head, or is in the tail
pub find-cases : {X : Type 0} (b : Bool) (x y : X) (o : Option X) → cond b (Some x) o ≡ Some y → ((b ≡ true) × (x ≡ y)) ⊎ ((b ≡ false) × (o ≡ Some y))
find-cases b x y o h = grind arith

-- the first that passes a test does, and what holds of each holds of it
pub first-is : {X : Type 0} (p : X → Bool) (P : X → Type 0) (y : X) (xs : List X) → AllByRecursion P xs → find p xs ≡ Some y → (p y ≡ true) × P y
first-is p P y [] a h = grind arith
first-is p P y (x ∷ xs) a h = grind (arith, first-is p P y xs a.1)

-- the value, if the test holds
abbrev pub some_if : {X : Type 0} → Bool → X → Option X
some_if true x = Some x
some_if false x = None

-- all that passes is this one
abbrev pub Only : {X : Type 0} → (X → Bool) → X → List X → Type 0
Only test v xs = AllByRecursion (λ x. test x ≡ true → x ≡ v) xs

-- it is the one that is found
pub find-all : {X : Type 0} (test : X → Bool) (v : X) (xs : List X) → Only test v xs → find test xs ≡ some_if (list_any test xs) v
find-all test v [] a = refl
find-all test v (x ∷ xs) a = grind (arith, a.0, find-all test v xs a.1)

-- if some element passes, this one is found
pub find-only : {X : Type 0} (test : X → Bool) (v : X) (xs : List X) → Only test v xs → list_any test xs ≡ true → find test xs ≡ Some v
find-only test v xs a h = grind (arith, h, find-all test v xs a)

-- the same in any order
pub only-order : {X : Type 0} (test : X → Bool) (v : X) (xs ys : List X) → IsPermutation xs ys → Only test v xs → Only test v ys
only-order test v xs ys p a = recursion_from_All _ ys (All-permutation (λ x. test x ≡ true → x ≡ v) xs ys p (All-from_recursion _ xs a))

-- the same element is found in any order, if all that pass equal the one that is found
pub find-order : {X : Type 0} (test : X → Bool) (xs ys : List X) → IsPermutation xs ys → ((x : X) → find test xs ≡ Some x → Only test x xs)
    → find test ys ≡ find test xs
find-order {X} test xs ys p only =
    let found : (x : X) → find test xs ≡ Some x → list_any test ys ≡ true → find test ys ≡ Some x =
    λ x e. find-only test x ys (only-order test x xs ys p (only x e)) in
    grind (arith, found, list_any-IsPermutation test xs ys p, any-find test xs, any-find test ys)

-- rows that are functions of their keys
pub all-keys : {K X : Type 0} (test : X → Bool) (row_of : K → X) (v : X) → ((k : K) → test (row_of k) ≡ true → row_of k ≡ v) → (keys : List K)
    → Only test v (map row_of keys)
all-keys test row_of v same [] = tt
all-keys test row_of v same (k ∷ keys) = (same k, all-keys test row_of v same keys)

-- VALUES THAT MAY BE THERE

-- a value that is not missing is there
pub there : {X : Type 0} (o : Option X) → is_none o ≡ false → is_some o ≡ true
there o h = grind arith

-- what was there is there whatever is said further
pub still : {X : Type 0} (o p : Option X) → is_some p ≡ true → is_some (option_or o p) ≡ true
still o p h = grind arith

-- a value that is not there is missing
pub none-there : {X : Type 0} (o : Option X) → is_some o ≡ false → o ≡ None
none-there o h = grind arith
