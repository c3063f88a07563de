-- The tests of WHERE on values.
use Rattle.kcr_rows.proofs.Common.{◌≡◌, ℕ, ◌&&◌, Bool, true, false, List, filter, refl, sym, ◌∙◌, arith, Value, Null, is_null, Row, column, equal}
use Rattle.kcr_rows.proofs.{Common.Binary, KeyLemmas.equal_is, SameLemmas.ties, SameLemmas.ties_is}
use Rattle.sqlite.specs.Ops.{binary}

-- two tests that answer alike keep the same elements
pub filter_as : {X : Type 0} (p q : X → Bool) → ((x : X) → p x ≡ q x) → (xs : List X) → filter p xs ≡ filter q xs
filter_as p q same xs = λ i. filter (λ x. same x i) xs

-- the row has this value in the column
abbrev pub has_value : ℕ → Value → Row → Bool
has_value at v row = equal Binary (column row at) v && true

and_true : (b : Bool) → (b && true) ≡ b
and_true b = grind arith

-- values that are there are equal if they tie
pub value_is : (a v : Value) → is_null a ≡ false → is_null v ≡ false → (equal Binary a v && true) ≡ ties a v
value_is a v there here = and_true _ ∙ equal_is a v there here ∙ sym (ties_is a v)

-- NULL equals nothing
pub null_is : (v : Value) → (equal Binary Null v && true) ≡ false
unfolding binary
null_is v = refl
