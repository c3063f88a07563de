-- Who is in a room by stays changes at the moments of the stays alone.
use Rattle.kcr_room.proofs.Common.{◌≡◌, ℕ, zero, suc, ◌+◌, ◌≤◌, Bool, true, false, cond, ◌==◌, nat_le, nat_lt, List, [], ◌∷◌, ◌++◌, Option, Some}
use Rattle.kcr_room.proofs.Common.{None, refl, sym, ap, ◌∙◌, arith, subst, list_any, or_parts, list_any-append, sum_by-cons, headcount_by}
use Rattle.kcr_room.proofs.Common.{IsFirstMoment, IsEver, count_until, stay_covers, headcount_in_by, is_lone_in_by, is_crowd_in_by, comings_by}
use Rattle.kcr_room.proofs.Common.{goings_by, first_lone_in_by, is_crowded_in_by, stays_by}
use Rattle.kcr_room.proofs.{Words.nat_tests, Words.SheetRow, Words.Stay, Agreement.same-crowd, Lists.count-cons}
use Rattle.kcr_room.proofs.Firsts.{RisesAt, is_first, is_first-same, is_ever}

-- HOW MANY MOMENTS HAVE PASSED

count-first : (moment : ℕ) (moments : List ℕ) (t : ℕ) → count_until (moment ∷ moments) t ≡ cond (nat_le moment t) 1 0 + count_until moments t
count-first moment moments t = count-cons (λ m. nat_le m t) moment moments (nat_le moment t) refl

-- none has passed before the first of them
count-zero : (moments : List ℕ) → list_any (λ n. n == 0) moments ≡ false → count_until moments 0 ≡ 0
count-zero [] h = refl
count-zero (n ∷ moments) h = grind (arith, nat_tests, h, count-first n moments 0, count-zero moments)

-- no more have passed at a moment that is none of them
count-kept : (t : ℕ) (moments : List ℕ) → list_any (λ n. n == suc t) moments ≡ false → count_until moments (suc t) ≡ count_until moments t
count-kept t [] h = refl
count-kept t (n ∷ moments) h = grind (arith, nat_tests, h, count-first n moments t, count-first n moments (suc t), count-kept t moments)

count-rises : (t : ℕ) (moments : List ℕ) → count_until moments t ≤ count_until moments (suc t)
count-rises t [] = omega arith
count-rises t (n ∷ moments) = grind (arith, nat_tests, count-first n moments t, count-first n moments (suc t), count-rises t moments)

-- HOW MANY ARE THERE

-- one stay more raises the headcount by one if it covers the moment, else not
pub crowd-cons : (stay : Stay) (stays : List Stay) (c t : ℕ) → headcount_in_by (stay ∷ stays) c t ≡ cond (stay_covers c t stay) 1 0 + headcount_in_by stays c t
crowd-cons stay stays c t = sum_by-cons (λ s. cond (stay_covers c t s) 1 0) stay stays

-- as many have come until t as are there or have gone
pub balance : (stays : List Stay) (c t : ℕ) → count_until (comings_by stays c) t ≡ headcount_in_by stays c t + count_until (goings_by stays c) t
balance [] c t = refl
balance (stay ∷ stays) c t =
    by_until stay.until refl (balance stays c t) (count-first stay.since (comings_by stays c) t) (crowd-cons stay stays c t)
  where
    by_until : (until : Option ℕ) → stay.until ≡ until
        → count_until (comings_by stays c) t ≡ headcount_in_by stays c t + count_until (goings_by stays c) t
        → count_until (stay.since ∷ comings_by stays c) t ≡ cond (nat_le stay.since t) 1 0 + count_until (comings_by stays c) t
        → headcount_in_by (stay ∷ stays) c t ≡ cond (stay_covers c t stay) 1 0 + headcount_in_by stays c t
        → count_until (comings_by (stay ∷ stays) c) t ≡ headcount_in_by (stay ∷ stays) c t + count_until (goings_by (stay ∷ stays) c) t
    by_until None e ih came one = grind (arith, nat_tests, e, ih, came, one)
    by_until (Some u) e ih came one = grind (arith, nat_tests, e, ih, came, one, count-first u (goings_by stays c) t)

-- a room is too full for the first time if somebody comes
crowd-rises : (stays : List Stay) (c : ℕ) → RisesAt (is_crowd_in_by stays c) (comings_by stays c)
crowd-rises stays c zero h p = grind (arith, nat_tests, balance stays c 0, count-zero (comings_by stays c))
crowd-rises stays c (suc t) h p =
    let came = count-kept t (comings_by stays c) in
    grind (arith, nat_tests, balance stays c t, balance stays c (suc t), count-rises t (goings_by stays c))

-- and exactly one person is there for the first time if somebody comes or goes
lone-rises : (stays : List Stay) (c : ℕ) → RisesAt (is_lone_in_by stays c) (comings_by stays c ++ goings_by stays c)
lone-rises stays c zero h p =
    let k = or_parts (list_any (λ n. n == 0) (comings_by stays c)) _
    (sym (list_any-append (λ n. n == 0) (comings_by stays c) (goings_by stays c)) ∙ h) in
    let none = count-zero (comings_by stays c) k.0 in
    grind (arith, nat_tests, balance stays c 0)
lone-rises stays c (suc t) h p =
    let k = or_parts (list_any (λ n. n == suc t) (comings_by stays c)) _ (sym (list_any-append _ (comings_by stays c) (goings_by stays c)) ∙ h) in
    let came = count-kept t (comings_by stays c) k.0 in
    let went = count-kept t (goings_by stays c) k.1 in
    grind (arith, nat_tests, balance stays c t, balance stays c (suc t))

-- the first lone moment by the stays is the first at which exactly one of them covers it
pub first_lone-is_first : (stays : List Stay) (c : ℕ) → IsFirstMoment (is_lone_in_by stays c) (first_lone_in_by stays c)
first_lone-is_first stays c = is_first (is_lone_in_by stays c) (comings_by stays c ++ goings_by stays c) (lone-rises stays c)

-- the first lone moment by the stays of a sheet is the first by its rows
pub first_lone-by_rows : (rows : List SheetRow) (c : ℕ) (o : Option ℕ) → IsFirstMoment (is_lone_in_by (stays_by rows) c) o → IsFirstMoment (λ t. headcount_by rows c t == 1) o
first_lone-by_rows rows c o h = is_first-same (is_lone_in_by (stays_by rows) c) (λ t. headcount_by rows c t == 1) (λ t. ap (λ n. n == 1) (same-crowd rows c t)) o h

-- the stays are found crowded if and only if at some moment too many people are there
pub crowded-is_ever : (stays : List Stay) (c : ℕ) → IsEver (is_crowd_in_by stays c) (is_crowded_in_by stays c)
crowded-is_ever stays c = is_ever (is_crowd_in_by stays c) (comings_by stays c) (crowd-rises stays c)

-- a room is ever crowded by the stays of a sheet if and only if it is by its rows
pub crowded-by_rows : (rows : List SheetRow) (c : ℕ) (b : Bool) → IsEver (is_crowd_in_by (stays_by rows) c) b → IsEver (λ t. nat_lt 128 (headcount_by rows c t)) b
crowded-by_rows rows c true h = (h.0, subst (λ n. nat_lt 128 n ≡ true) (same-crowd rows c h.0) h.1)
crowded-by_rows rows c false h = λ t. subst (λ n. nat_lt 128 n ≡ false) (same-crowd rows c t) (h t)
