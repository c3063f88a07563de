-- A law: those present are listed in byte order, each once (`present_are_rising`).
use Rattle.kcr_room.proofs.Common.{◌≡◌, ℕ, ◌≤◌, Bool, true, false, nat_eq, List, [], ◌∷◌, map, length, refl, arith, list_any, list_all, filter}
use Rattle.kcr_room.proofs.Common.{Ordering, nat_cmp, is_eq, slice_cmp, pointwise, IsStrictWeakOrder, ranks_by, nat_list_cmp_total}
use Rattle.kcr_room.proofs.Common.{same_from_slice_cmp, enters, in_force, ascending, put_person, are_apart, are_rising, PresentAreRising, all-more}
use Rattle.kcr_room.proofs.{Common.same-itself, Common.same-turned, Keeping.any-ascending, Agreement.of_person, Agreement.force-last}
use Rattle.kcr_room.proofs.Words.{nat_tests, same_text, is_before, SheetRow}

tied-same : (a b : List ℕ) (o : Ordering) → o ≡ slice_cmp nat_cmp a b → is_eq o ≡ same_text a b
tied-same = same_from_slice_cmp nat_cmp is_eq (pointwise nat_eq) refl (λ _ _. refl) (λ _ _. refl) (λ x y xs ys o h. grind (arith, nat_tests))

-- of two different codes of which one is not before, the other is
pub other-before : (a b : List ℕ) → is_before a b ≡ false → same_text a b ≡ false → is_before b a ≡ true
other-before a b f s =
    grind (arith, nat_tests, f, s, tied-same a b (slice_cmp nat_cmp a b) refl, nat_list_cmp_total.antisymm b a)

-- codes stand in an order in which any two compare
pub ranked : IsStrictWeakOrder is_before
ranked = ranks_by nat_list_cmp_total (λ code. code)

-- a code before a second is before each that the second is before
pub before-trans : (a b c : List ℕ) → is_before a b ≡ true → is_before b c ≡ true → is_before a c ≡ true
before-trans a b c f g = grind (arith, nat_tests, f, g, ranked.one_way a b, ranked.chain b a c)

all-put : (p : List ℕ → Bool) (who : List ℕ) (people : List (List ℕ)) → p who ≡ true → list_all p people ≡ true → list_all p (put_person who people) ≡ true
all-put p who [] h a = grind arith
all-put p who (other ∷ rest) h a = grind (arith, nat_tests, all-put p who rest)

all-trans : (a b : List ℕ) (people : List (List ℕ)) → is_before a b ≡ true → list_all (is_before b) people ≡ true → list_all (is_before a) people ≡ true
all-trans a b people h k = all-more (is_before b) (is_before a) people (λ who. before-trans a b who h) k

rising-put : (who : List ℕ) (people : List (List ℕ)) → are_rising people ≡ true → list_any (same_text who) people ≡ false
    → are_rising (put_person who people) ≡ true
rising-put who [] r n = refl
rising-put who (other ∷ rest) r n =
    let all = all-put (is_before other) who rest in
    grind (arith, nat_tests, same-turned other who, other-before other who, all, all-trans who other rest, rising-put who rest)

rising-ascending : (people : List (List ℕ)) → are_apart people ≡ true → are_rising (ascending people) ≡ true
rising-ascending [] a = refl
rising-ascending (who ∷ rest) a =
    grind (arith, nat_tests, a, rising-put who (ascending rest), rising-ascending rest, any-ascending (same_text who) rest)

none-like : (c : ℕ) (who : List ℕ) (rows : List SheetRow) → length (filter (of_person who) rows) ≡ 0
    → list_any (same_text who) (map (λ row. row.who) (filter (enters c) rows)) ≡ false
none-like c who [] h = refl
none-like c who (row ∷ rows) h = grind (arith, nat_tests, h, same-turned who row.who, none-like c who rows)

-- if the list has one row of each person or none
apart-single : (c : ℕ) (rows : List SheetRow) → ((who : List ℕ) → length (filter (of_person who) rows) ≤ 1)
    → are_apart (map (λ row. row.who) (filter (enters c) rows)) ≡ true
apart-single c [] single = refl
apart-single c (row ∷ rows) single =
    let rest = apart-single c rows (λ who. grind (arith, nat_tests, single who)) in
    let none = none-like c row.who rows in
    grind (arith, nat_tests, single row.who, same-itself row.who, none, rest)

-- those present are listed in byte order, each once
pub present_are_rising : PresentAreRising
present_are_rising rows c t =
    rising-ascending (map (λ row. row.who) (filter (enters c) (in_force t rows)))
    (apart-single c (in_force t rows) (λ who. grind (arith, force-last who t rows)))
