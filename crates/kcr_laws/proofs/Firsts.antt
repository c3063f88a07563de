-- Where people can be seated there is a first seating: seat by seat the first person with whom the others can be seated too.
use Rattle.kcr_laws.proofs.Common.{◌≡◌, ◌≢◌, ℕ, Bool, true, false, not, ◌&&◌, List, [], ◌∷◌, ◌⊎◌, inl, inr, refl, sym, arith, list_any, list_all}
use Rattle.kcr_laws.proofs.Common.{false≢true, and_parts, and_from, not-true, cases_Bool, false_from_ne_true, same_text, is_before, same-is}
use Rattle.kcr_laws.proofs.Common.{same-turned, are_rising, present_are_in, present_are_rising, Seat, History, sheet, present, eligible, is_seating}
use Rattle.kcr_laws.proofs.{Common.comes_first, Common.IsFirst, Trials.one_of}

-- nobody of some people is among those taken
abbrev are_free : List (List ℕ) → List (List ℕ) → Bool
are_free taken people = list_all (λ who. not (list_any (same_text who) taken)) people

-- the first of the people is among some
abbrev begins_in : List (List ℕ) → List (List ℕ) → Bool
begins_in ps [] = false
begins_in ps (who ∷ people) = list_any (same_text who) ps

-- people who are free with one more taken are free, and that one is not among them
one_less : (p : List ℕ) (taken people : List (List ℕ)) → are_free (p ∷ taken) people ≡ true
    → (are_free taken people ≡ true) × (list_any (same_text p) people ≡ false)
one_less p taken [] h = (refl, refl)
one_less p taken (who ∷ people) h = grind (arith, same-turned who p, one_less p taken people)

one_more : (p : List ℕ) (taken people : List (List ℕ)) → are_free taken people ≡ true → list_any (same_text p) people ≡ false
    → are_free (p ∷ taken) people ≡ true
one_more p taken [] h n = refl
one_more p taken (who ∷ people) h n = grind (arith, same-turned who p, one_more p taken people)

module _ (A : History) (c t : ℕ) where
  -- a seating of people who are free
  abbrev is_free_seating : List Seat → List (List ℕ) → List (List ℕ) → Bool
  is_free_seating seats taken people = is_seating A c t seats people && are_free taken people

  -- the first of the seatings of free people that pass a test
  record IsFirstOf (seats : List Seat) (taken : List (List ℕ)) (test : List (List ℕ) → Bool) (people : List (List ℕ)) : Type 0 where
    pub seated : is_free_seating seats taken people ≡ true
    pub first : (others : List (List ℕ)) → is_free_seating seats taken others ≡ true → test others ≡ true → others ≢ people → comes_first people others ≡ true

  -- there is a first one, or there is none
  abbrev Found : List Seat → List (List ℕ) → (List (List ℕ) → Bool) → Type 0
  Found seats taken test =
      ((people : List (List ℕ)) × IsFirstOf seats taken test people)
      ⊎ ((others : List (List ℕ)) → is_free_seating seats taken others ≡ true → test others ≡ true → ⊥)

  -- behind its first person a seating of free people is one with that person taken
  behind : (seat : Seat) (seats : List Seat) (taken : List (List ℕ)) (who : List ℕ) (people : List (List ℕ))
      → is_free_seating (seat ∷ seats) taken (who ∷ people) ≡ true → is_free_seating seats (who ∷ taken) people ≡ true
  behind seat seats taken who people h = grind (arith, one_more who taken people)

  -- of the seatings whose first person is one of p and some who come later, if none has p
  pass_over : (seat : Seat) (seats : List Seat) (taken : List (List ℕ)) (p : List ℕ) (ps : List (List ℕ))
      → ((people : List (List ℕ)) → is_free_seating (seat ∷ seats) taken (p ∷ people) ≡ false)
      → Found (seat ∷ seats) taken (begins_in ps) → Found (seat ∷ seats) taken (begins_in (p ∷ ps))
  pass_over seat seats taken p ps none found = elim found [
    | inl a ↦ inl (a.0, record { seated = a.1.seated; first = λ others s b ne. a.1.first others s (later others s b) ne })
    | inr nobody ↦ inr (λ others s b. nobody others s (later others s b))
  ]
    where
      later : (others : List (List ℕ)) → is_free_seating (seat ∷ seats) taken others ≡ true → begins_in (p ∷ ps) others ≡ true → begins_in ps others ≡ true
      later [] s b = b
      later (who ∷ others) s b = grind (arith, same-is who p, none others)

  -- p, and the first seating of the other seats without p, come before every seating that begins with somebody later
  take_first : (seat : Seat) (seats : List Seat) (taken : List (List ℕ)) (p : List ℕ) (ps people : List (List ℕ)) → list_all (is_before p) ps ≡ true
      → eligible A c t seat p ≡ true → list_any (same_text p) taken ≡ false
      → IsFirstOf seats (p ∷ taken) (λ others. true) people → IsFirstOf (seat ∷ seats) taken (begins_in (p ∷ ps)) (p ∷ people)
  take_first seat seats taken p ps people before fit free f =
      record { seated = grind (arith, fit, free, f.seated, one_less p taken people); first = first }
    where
      first : (others : List (List ℕ)) → is_free_seating (seat ∷ seats) taken others ≡ true → begins_in (p ∷ ps) others ≡ true → others ≢ p ∷ people
          → comes_first (p ∷ people) others ≡ true
      first [] s b ne = absurd (false≢true b)
      first (who ∷ others) s b ne = elim (cases_Bool (same_text p who)) [
        | inl e ↦
            let is : p ≡ who = same-is p who e in
            rw e (f.first others (rw (← is) at (behind seat seats taken who others s)) refl (λ q. ne (λ i. sym is i ∷ q i)))
        | inr e ↦ grind (arith, e, same-turned who p, one_of same_text same-is who (is_before p) ps)
      ]

  -- one person after the other is tried for the first seat
  try : (seat : Seat) (seats : List Seat) (taken ps : List (List ℕ)) → are_rising ps ≡ true → ((more : List (List ℕ)) → Found seats more (λ others. true))
      → Found (seat ∷ seats) taken (begins_in ps)
  try seat seats taken [] r find = inr (λ others s b. nobody others b)
    where
      nobody : (others : List (List ℕ)) → begins_in [] others ≡ true → ⊥
      nobody [] b = false≢true b
      nobody (who ∷ others) b = false≢true b
  try seat seats taken (p ∷ ps) r find =
      let rest = and_parts (list_all (is_before p) ps) (are_rising ps) r in
      let later = try seat seats taken ps rest.1 find in
      elim (cases_Bool (eligible A c t seat p && not (list_any (same_text p) taken))) [
        | inl e ↦
            let fit = and_parts (eligible A c t seat p) (not (list_any (same_text p) taken)) e in
            elim (find (p ∷ taken)) [
              | inl a ↦ inl (p ∷ a.0, take_first seat seats taken p ps a.0 rest.0 fit.0 (not-true _ fit.1) a.1)
              | inr nobody ↦
                  let none = λ (people : List (List ℕ)). false_from_ne_true _ (λ s. nobody people (behind seat seats taken p people s) refl) in
                  pass_over seat seats taken p ps none later
            ]
        | inr e ↦ pass_over seat seats taken p ps (λ people. grind (arith, e)) later
      ]

  -- whoever sits on the first seat is present
  begins_present : (seat : Seat) (seats : List Seat) (taken others : List (List ℕ)) → is_free_seating (seat ∷ seats) taken others ≡ true
      → begins_in (present A c t) others ≡ true
  begins_present seat seats taken [] s = s
  begins_present seat seats taken (who ∷ others) s = grind (arith, present_are_in (sheet A) who c t)

  find_first : (seats : List Seat) (taken : List (List ℕ)) → Found seats taken (λ others. true)
  find_first [] taken = inl ([], record { seated = refl; first = λ others s b ne. absurd (alone others s ne) })
    where
      alone : (others : List (List ℕ)) → is_free_seating [] taken others ≡ true → others ≢ [] → ⊥
      alone [] s ne = ne refl
      alone (who ∷ others) s ne = false≢true s
  find_first (seat ∷ seats) taken = elim (try seat seats taken (present A c t) (present_are_rising (sheet A) c t) (find_first seats)) [
    | inl a ↦ inl (a.0, record { seated = a.1.seated; first = λ others s b ne. a.1.first others s (begins_present seat seats taken others s) ne })
    | inr nobody ↦ inr (λ others s b. nobody others s (begins_present seat seats taken others s))
  ]

  none_taken : (people : List (List ℕ)) → are_free [] people ≡ true
  none_taken [] = refl
  none_taken (who ∷ people) = none_taken people

  free_too : (seats : List Seat) (people : List (List ℕ)) → is_seating A c t seats people ≡ true → is_free_seating seats [] people ≡ true
  free_too seats people h = and_from (is_seating A c t seats people) (are_free [] people) h (none_taken people)

  -- there is a first seating, or none at all
  pub first_or_none : (seats : List Seat)
      → ((people : List (List ℕ)) × IsFirst A c t seats people) ⊎ ((others : List (List ℕ)) → is_seating A c t seats others ≡ true → ⊥)
  first_or_none seats = elim (find_first seats []) [
    | inl a ↦ inl (a.0, record { seating = grind (arith, a.1.seated); first = λ others s ne. a.1.first others (free_too seats others s) refl ne })
    | inr nobody ↦ inr (λ others s. nobody others (free_too seats others s) refl)
  ]
