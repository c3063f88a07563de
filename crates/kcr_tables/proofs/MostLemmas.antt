-- A row with the greatest number, and the greatest number of a list.
use Rattle.kcr_tables.proofs.Common.{◌≡◌, inl, inr, ◌≤◌, max, ℕ, List, [], ◌∷◌, refl, sym, ap, subst, arith, Has, all_has, IsGreatest}

module _ {X : Type 0} (number : X → ℕ) where
  module _ (all shown : List X) (greatest : IsGreatest number all shown) where
    -- what is shown is one of them
    pub shown_has : (x : X) → Has shown x → Has all x
    shown_has x h = elim greatest [
      | inl none ↦ absurd (subst (λ l. Has l x) none.1 h)
      | inr some ↦ elim (subst (λ l. Has l x) some.1 h) [ inl same ↦ subst (Has all) (sym same) some.2 | inr none ↦ absurd none ]
    ]

    -- and none exceeds it
    pub shown_over : (x : X) → Has all x → (s : X) × Has shown s × (number x ≤ number s)
    shown_over x h = elim greatest [
      | inl none ↦ absurd (subst (λ l. Has l x) none.0 h)
      | inr some ↦ (some.0, subst (λ l. Has l some.0) (sym some.1) (inl refl), all_has (λ (y : X). number y ≤ number some.0) all x some.3 h)
    ]

  -- a list's greatest number, 0 if it is empty
  module _ (most : List X → ℕ) (none : most [] ≡ 0) (more : (x : X) (xs : List X) → most (x ∷ xs) ≡ max (number x) (most xs)) where
    most_above : (xs : List X) (x : X) → Has xs x → number x ≤ most xs
    most_above [] x h = absurd h
    most_above (y ∷ ys) x (inl same) = let e = ap number same in let is = more y ys in omega (arith, e, is)
    most_above (y ∷ ys) x (inr later) = let h = most_above ys x later in let is = more y ys in omega (arith, h, is)

    most_within : (xs ys : List X) → ((x : X) → Has xs x → (y : X) × Has ys y × (number x ≤ number y)) → most xs ≤ most ys
    most_within [] ys over = omega (arith, none)
    most_within (x ∷ xs) ys over =
        let here = over x (inl refl) in
        let low = here.2 in
        let high = most_above ys here.0 here.1 in
        let rest = most_within xs ys (λ z h. over z (inr h)) in
        let is = more x xs in omega (arith, low, high, rest, is)

    -- it is the same of two lists of which neither exceeds the other
    pub most_same : (xs ys : List X) → ((x : X) → Has xs x → (y : X) × Has ys y × (number x ≤ number y))
        → ((y : X) → Has ys y → (x : X) × Has xs x × (number y ≤ number x)) → most xs ≡ most ys
    most_same xs ys over under = let low = most_within xs ys over in let high = most_within ys xs under in omega (arith, low, high)
