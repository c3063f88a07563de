-- Of some seats and people either each seat gets a person of its own who fits it, or fewer people fit some of the seats than
-- those are: the theorem of Philip Hall, by one person after the other.
use Rattle.kcr_laws.proofs.Common.{◌≡◌, ℕ, ◌+◌, ◌<◌, ◌≤◌, Bool, true, false, cond, not, ◌||◌, ◌&&◌, ◌==◌, List, [], ◌∷◌, ◌⊎◌, inl, inr, refl, ap}
use Rattle.kcr_laws.proofs.Common.{arith, list_any, false≢true, both_ways, and_parts, or_cases, or_left, or_right, not-true, cases_Bool}
use Rattle.kcr_laws.proofs.Common.{false_from_ne_true, eq-eqb, nat_tests, same_text, same-itself}

-- SETS OF SEATS

-- the number is one of the list
abbrev pub is_one : ℕ → List ℕ → Bool
is_one p ps = list_any (λ q. q == p) ps

-- one for yes, none for no
abbrev pub bit : Bool → ℕ
bit true = 1
bit false = 0

-- how many of the numbers are in the set
abbrev pub count : List ℕ → (ℕ → Bool) → ℕ
count [] s = 0
count (i ∷ is) s = bit (s i) + count is s

-- in either of two sets, and in both
abbrev pub either : (ℕ → Bool) → (ℕ → Bool) → ℕ → Bool
either s t i = s i || t i

abbrev pub both : (ℕ → Bool) → (ℕ → Bool) → ℕ → Bool
both s t i = s i && t i

-- if some number of a list passes a test there is such a number, and the other way round
some_at : (test : ℕ → Bool) (is : List ℕ) → list_any test is ≡ true → (i : ℕ) × (is_one i is ≡ true) × (test i ≡ true)
some_at test [] h = absurd (false≢true h)
some_at test (i ∷ is) h = elim (or_cases (test i) (list_any test is) h) [
  | inl e ↦ (i, or_left (i == i) (is_one i is) (eq-eqb i i refl), e)
  | inr e ↦ let w = some_at test is e in (w.0, or_right (i == w.0) (is_one w.0 is) w.1, w.2)
]

-- if a number of the list passes the test, some number passes
pub some_from : (test : ℕ → Bool) (is : List ℕ) (i : ℕ) → is_one i is ≡ true → test i ≡ true → list_any test is ≡ true
some_from test [] i h e = cc
some_from test (j ∷ is) i h e = grind (arith, nat_tests, some_from test is i)

-- as many are in either and in both as in the one and in the other
count_parts : (is : List ℕ) (s t : ℕ → Bool) → count is (either s t) + count is (both s t) ≡ count is s + count is t
count_parts [] s t = refl
count_parts (i ∷ is) s t = grind (arith, count_parts is s t)

some_counts : (is : List ℕ) (s : ℕ → Bool) → list_any s is ≡ true → 0 < count is s
some_counts [] s h = cc
some_counts (i ∷ is) s h = grind (arith, some_counts is s)

-- each of the people stands once
abbrev pub stand_once : List (List ℕ) → Bool
stand_once [] = true
stand_once (who ∷ people) = not (list_any (same_text who) people) && stand_once people

module _ (all : List ℕ) (fits : ℕ → List ℕ → Bool) where
  -- the person fits a seat of the set
  abbrev pub takes : (ℕ → Bool) → List ℕ → Bool
  takes s who = list_any (λ i. s i && fits i who) all

  -- how many of the people do
  abbrev pub takers : (ℕ → Bool) → List (List ℕ) → ℕ
  takers s [] = 0
  takers s (who ∷ people) = bit (takes s who) + takers s people

  -- each seat of the set has a person who fits it, and nobody two of them
  pub record IsAssigned (people : List (List ℕ)) (need : ℕ → Bool) (w : ℕ → List ℕ) : Type 0 where
    pub fit : (i : ℕ) → is_one i all ≡ true → need i ≡ true → fits i (w i) ≡ true
    pub there : (i : ℕ) → is_one i all ≡ true → need i ≡ true → list_any (same_text (w i)) people ≡ true
    pub apart : (i j : ℕ) → is_one i all ≡ true → is_one j all ≡ true → need i ≡ true → need j ≡ true → w i ≡ w j → i ≡ j

  -- fewer people fit a part of the set than it has seats
  pub record IsScarce (people : List (List ℕ)) (need s : ℕ → Bool) : Type 0 where
    pub part : (i : ℕ) → s i ≡ true → need i ≡ true
    pub few : takers s people < count all s

  -- the seats of the set have people, or some of them are scarce
  abbrev pub OneOfTwo : List (List ℕ) → (ℕ → Bool) → Type 0
  OneOfTwo people need = ((w : ℕ → List ℕ) × IsAssigned people need w) ⊎ ((s : ℕ → Bool) × IsScarce people need s)

  -- who fits a seat of either set fits one of the one or of the other; who fits one of both fits one of each
  takes_most : (s t : ℕ → Bool) (who : List ℕ) → bit (takes (either s t) who) + bit (takes (both s t) who) ≤ bit (takes s who) + bit (takes t who)
  takes_most s t who =
      grind (arith, split all, part s (λ i h. (and_parts (s i) (t i) h).0) all, part t (λ i h. (and_parts (s i) (t i) h).1) all)
    where
      split : (is : List ℕ) → list_any (λ i. (s i || t i) && fits i who) is ≡ true
          → (list_any (λ i. s i && fits i who) is || list_any (λ i. t i && fits i who) is) ≡ true
      split [] h = h
      split (i ∷ is) h = grind (arith, split is)

      part : (u : ℕ → Bool) → ((i : ℕ) → (s i && t i) ≡ true → u i ≡ true) → (is : List ℕ) → list_any (λ i. (s i && t i) && fits i who) is ≡ true
          → list_any (λ i. u i && fits i who) is ≡ true
      part u f [] h = h
      part u f (i ∷ is) h = grind (arith, part u f is, f i)

  takers_most : (s t : ℕ → Bool) (people : List (List ℕ)) → takers (either s t) people + takers (both s t) people ≤ takers s people + takers t people
  takers_most s t [] = omega arith
  takers_most s t (who ∷ people) = omega (arith, takes_most s t who, takers_most s t people)

  -- of two sets that are scarce both together are so by two, or what they share is scarce
  two_scarce : (s t : ℕ → Bool) (people : List (List ℕ)) → takers s people < count all s → takers t people < count all t
      → (takers (both s t) people < count all (both s t)) ⊎ (takers (either s t) people + 1 < count all (either s t))
  two_scarce s t people f g = grind (arith, takers_most s t people, count_parts all s t)

  -- ONE PERSON MORE

  -- a scarce set of the others, none of whose seats of a list the person fits
  record IsClear (people : List (List ℕ)) (need : ℕ → Bool) (p : List ℕ) (seen : List ℕ) (s : ℕ → Bool) : Type 0 where
    pub scarce : IsScarce people need s
    pub clear : (i : ℕ) → is_one i seen ≡ true → s i ≡ true → fits i p ≡ false

  more_there : (p : List ℕ) (people : List (List ℕ)) (need : ℕ → Bool) (w : ℕ → List ℕ) → IsAssigned people need w → IsAssigned (p ∷ people) need w
  more_there p people need w a =
      record { fit = a.fit; there = λ i o n. or_right (same_text (w i) p) (list_any (same_text (w i)) people) (a.there i o n); apart = a.apart }

  -- the set without a seat, and who sits if once the person has that seat
  abbrev without : ℕ → (ℕ → Bool) → ℕ → Bool
  without k need i = need i && not (i == k)

  abbrev given : ℕ → List ℕ → (ℕ → List ℕ) → ℕ → List ℕ
  given k p w i = cond (i == k) p (w i)

  module _ (p : List ℕ) (people : List (List ℕ)) (need : ℕ → Bool) (k : ℕ) (w : ℕ → List ℕ)
      (alone : list_any (same_text p) people ≡ false) (f : fits k p ≡ true) (a : IsAssigned people (without k need) w) where
    -- the person has no other seat
    no_other : (j : ℕ) → is_one j all ≡ true → need j ≡ true → (j == k) ≡ false → p ≡ w j → ⊥
    no_other j o n e q = grind (arith, a.there j o)

    give : IsAssigned (p ∷ people) need (given k p w)
    give = record {
      fit = λ i o n. grind (arith, nat_tests, a.fit i o);
      there = λ i o n. grind (arith, nat_tests, a.there i o, same-itself p);
      apart = λ i j o u n m q. grind (arith, nat_tests, a.apart i j o u, no_other i o n, no_other j u m);
    }

  -- the seat k, which the person fits, is taken out of the scarce set, or the person gets it, or a set is scarce by two
  clear_one : (p : List ℕ) (people : List (List ℕ)) (need : ℕ → Bool) (k : ℕ) (seen : List ℕ) (s : ℕ → Bool) → list_any (same_text p) people ≡ false
      → fits k p ≡ true
      → IsClear people need p seen s → OneOfTwo people (without k need) → OneOfTwo (p ∷ people) need ⊎ ((t : ℕ → Bool) × IsClear people need p (k ∷ seen) t)
  clear_one p people need k seen s alone f c (inl a) = inl (inl (given k p a.0, give p people need k a.0 alone f a.1))
  clear_one p people need k seen s alone f c (inr (t, d)) = elim (two_scarce s t people c.scarce.few d.few) [
    | inl few ↦ inr (
      both s t,
      record {
        scarce = record { part = λ i h. c.scarce.part i (and_parts (s i) (t i) h).0; few = few };
        clear = λ i o h. grind (arith, nat_tests, c.clear i, d.part i);
      },
    )
    | inr few ↦ inl (inr (either s t, record { part = λ i h. grind (arith, c.scarce.part i, d.part i); few = grind (arith, few) }))
  ]

  -- so for one seat after the other
  clear_all : (p : List ℕ) (people : List (List ℕ)) (need : ℕ → Bool) (seen : List ℕ) → list_any (same_text p) people ≡ false
      → ((less : ℕ → Bool) → OneOfTwo people less)
      → OneOfTwo (p ∷ people) need ⊎ ((s : ℕ → Bool) × IsClear people need p seen s)
  clear_all p people need [] alone hall = elim (hall need) [
    | inl (w, a) ↦ inl (inl (w, more_there p people need w a))
    | inr (s, d) ↦ inr (s, record { scarce = d; clear = λ i o h. absurd (false≢true o) })
  ]
  clear_all p people need (k ∷ seen) alone hall = elim (clear_all p people need seen alone hall) [
    | inl done ↦ inl done
    | inr (s, c) ↦ elim (cases_Bool (s k && fits k p)) [
      | inl e ↦ clear_one p people need k seen s alone (and_parts (s k) (fits k p) e).1 c (hall (without k need))
      | inr e ↦ inr (s, record { scarce = c.scarce; clear = λ i o h. grind (arith, nat_tests, c.clear i, e) })
    ]
  ]

  -- a scarce set of the others none of whose seats the person fits is scarce still
  still_scarce : (p : List ℕ) (people : List (List ℕ)) (need s : ℕ → Bool) → IsClear people need p all s → IsScarce (p ∷ people) need s
  still_scarce p people need s c = record { part = c.scarce.part; few = omega (arith, c.scarce.few, ap bit none) }
    where
      none : takes s p ≡ false
      none = false_from_ne_true (takes s p) (λ e. let w = some_at (λ i. s i && fits i p) all e in grind (arith, c.clear w.0, w.1, w.2))

  -- the seats of a set can be filled, or are scarce
  pub hall : (people : List (List ℕ)) → stand_once people ≡ true → (need : ℕ → Bool) → OneOfTwo people need
  hall [] once need = elim (cases_Bool (list_any need all)) [
    | inl e ↦ inr (need, record { part = λ i h. h; few = some_counts all need e })
    | inr e ↦
        let none : (i : ℕ) → is_one i all ≡ true → need i ≡ true → ⊥ = λ i o n. both_ways (list_any need all) e (some_from need all i o n) in
        inl ((λ i. []), record { fit = λ i o n. absurd (none i o n); there = λ i o n. absurd (none i o n); apart = λ i j o u n m q. absurd (none i o n) })
  ]
  hall (p ∷ people) once need =
      let parts = and_parts (not (list_any (same_text p) people)) (stand_once people) once in
      elim (clear_all p people need all (not-true (list_any (same_text p) people) parts.0) (hall people parts.1)) [
        | inl done ↦ done
        | inr (s, c) ↦ inr (s, still_scarce p people need s c)
      ]
