-- What lists have.
use Rattle.kcr_tables.proofs.Common.{◌≡◌, inl, inr, Bool, true, ℕ, List, [], ◌∷◌, filter, map, sym, ◌∙◌, Less, Equal, is_eq, tied_back, Row}
use Rattle.kcr_tables.proofs.Common.{IsAscending, Has, all_has, has_filtered, by_key, key_total, from_map}
use Rattle.kcr_base.specs.Rows.{IsIn}
use Rattle.kcr_rows.proofs.OverLemmas.{tie_is}

-- two ways to say that a list has an element
pub has_in : {X : Type 0} (x : X) (xs : List X) → Has xs x → IsIn x xs
has_in x [] h = h
has_in x (y ∷ xs) (inl same) = inl same
has_in x (y ∷ xs) (inr h) = inr (has_in x xs h)

-- an element that is in a list by `IsIn` is in it by `Has`
pub in_has : {X : Type 0} (x : X) (xs : List X) → IsIn x xs → Has xs x
in_has x [] i = i
in_has x (y ∷ xs) (inl same) = inl same
in_has x (y ∷ xs) (inr i) = inr (in_has x xs i)

-- in a list that rises, two that tie are one, if of those that tie none is below the other
pub one_of_rising : {X : Type 0} (R T : X → X → Type 0) → ((x y : X) → T x y → (R x y → ⊥) × (R y x → ⊥)) → (xs : List X) → IsAscending R xs
    → (x y : X) → Has xs x → Has xs y → T x y → x ≡ y
one_of_rising R T none [] up x y h k tie = absurd h
one_of_rising R T none (r ∷ rows) up x y (inl h) (inl k) tie = h ∙ sym k
one_of_rising R T none (r ∷ rows) up x y (inl h) (inr k) tie = absurd ((none x y tie).0 (rw h (all_has _ rows y up.0 k)))
one_of_rising R T none (r ∷ rows) up x y (inr h) (inl k) tie = absurd ((none x y tie).1 (rw k (all_has _ rows x up.0 h)))
one_of_rising R T none (r ∷ rows) up x y (inr h) (inr k) tie = one_of_rising R T none rows up.1 x y h k tie

-- an element that a filter leaves is in the list
pub filter_from : {X : Type 0} (p : X → Bool) (xs : List X) (x : X) → Has (filter p xs) x → Has xs x
filter_from p xs x h = (has_filtered p xs x h).0

-- what a filter leaves passes
pub filter_is : {X : Type 0} (p : X → Bool) (xs : List X) (x : X) → Has (filter p xs) x → p x ≡ true
filter_is p xs x h = (has_filtered p xs x h).1

-- two rows of one key are one, in rows that rise by their keys
pub one_key_of : {X : Type 0} (keys : ℕ) (row_of : X → Row) (xs : List X) → IsAscending (λ a b. by_key keys a b ≡ Less) (map row_of xs) → (x y : X) → Has xs x
    → Has xs y → is_eq (by_key keys (row_of x) (row_of y)) ≡ true → x ≡ y
one_key_of {X} keys row_of xs up x y h k tie =
    let key = λ (a b : X). by_key keys (row_of a) (row_of b) in
    one_of_rising (λ a b. key a b ≡ Less) (λ a b. key a b ≡ Equal) (λ a b t.
    let back = tied_back (key_total keys) (row_of a) (row_of b) t in (λ e. cc, λ e. cc)) xs
    (from_map (λ a b. by_key keys a b ≡ Less) row_of xs up) x y h k (tie_is _ tie)
