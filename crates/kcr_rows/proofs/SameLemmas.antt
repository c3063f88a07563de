-- When two rows have one key, by the tests of values.
use Rattle.kcr_rows.proofs.Common.{◌≡◌, ℕ, ◌==◌, ◌&&◌, Bool, List, [], ◌∷◌, Option, pos, refl, sym, ap, ◌∙◌, Ordering, arith, rules, is_eq}
use Rattle.kcr_rows.proofs.Common.{ordering_reverse, IsTotalOrder, nat_tests, on_total, Value, Int, Text, Row, value_cmp, rising, value_cmp-Text}
use Rattle.kcr_rows.proofs.Common.{value_cmp-Int, key_cmp_total, facility_text, Facility, by_key, int_or_null}
use Rattle.std.proofs.lemmas.Map.Text.{is_eq-slice_cmp}
pub use Rattle.kcr_base.proofs.ValueLemmas.{one_place}
use Rattle.kcr_base.specs.{Role.role_text, Place.place_text, declared.place.Role.Role, declared.place.Place.Place}
use Rattle.kcr_base.specs.Same.{same_text, same_facility, same_role, same_place}

-- keys are in a total order
pub key_total : (keys : ℕ) → IsTotalOrder (by_key keys)
key_total keys = on_total _ (key_cmp_total (rising keys []) 0)

-- ---- values

-- neither of two values is before the other
pub ties : Value → Value → Bool
ties a b = is_eq (value_cmp a b)

-- two values tie if and only if their order is equal
pub ties_is : (a b : Value) → ties a b ≡ is_eq (value_cmp a b)
unfolding ties
ties_is a b = refl

-- two texts are the same if and only if they tie as values
pub text_ties : (s t : List ℕ) → same_text s t ≡ ties (Text s) (Text t)
unfolding ties
text_ties s t = sym (ap is_eq (value_cmp-Text s t) ∙ is_eq-slice_cmp s t)

-- two numbers are equal if and only if they tie as values
pub number_ties : (m n : ℕ) → (m == n) ≡ ties (Int (pos m)) (Int (pos n))
unfolding ties
number_ties m n = search (rules, value_cmp-Int, nat_tests)

same_facility_texts : (f g : Facility) → same_facility f g ≡ same_text (facility_text f) (facility_text g)
same_facility_texts f g = grind arith

-- two facilities are the same if and only if their texts tie
pub facility_ties : (f g : Facility) → same_facility f g ≡ ties (Text (facility_text f)) (Text (facility_text g))
facility_ties f g = same_facility_texts f g ∙ text_ties (facility_text f) (facility_text g)

same_role_texts : (q r : Role) → same_role q r ≡ same_text (role_text q) (role_text r)
same_role_texts q r = grind arith

-- two roles are the same if and only if their texts tie
pub role_ties : (q r : Role) → same_role q r ≡ ties (Text (role_text q)) (Text (role_text r))
role_ties q r = same_role_texts q r ∙ text_ties (role_text q) (role_text r)

same_place_texts : (p q : Place) → same_place p q ≡ same_text (place_text p) (place_text q)
same_place_texts p q = grind (arith, nat_tests)

-- two places are the same if and only if their texts tie
pub place_ties : (p q : Place) → same_place p q ≡ ties (Text (place_text p)) (Text (place_text q))
place_ties p q = same_place_texts p q ∙ text_ties (place_text p) (place_text q)

-- ---- keys of one to four columns

-- keys of one column are equal if and only if their values tie
pub one_column : (a b : Value) (xs ys : Row) → ties a b ≡ is_eq (by_key 1 (a ∷ xs) (b ∷ ys))
unfolding ties
one_column a b xs ys = grind arith

-- keys of two columns are equal if and only if both values tie
pub two_columns : (a b c d : Value) (xs ys : Row) → (ties a c && ties b d) ≡ is_eq (by_key 2 (a ∷ b ∷ xs) (c ∷ d ∷ ys))
unfolding ties
two_columns a b c d xs ys = grind arith

-- keys of three columns are equal if and only if all values tie
pub three_columns : (a b c d e f : Value) (xs ys : Row) → ((ties a d && ties b e) && ties c f) ≡ is_eq (by_key 3 (a ∷ b ∷ c ∷ xs) (d ∷ e ∷ f ∷ ys))
unfolding ties
three_columns a b c d e f xs ys = grind arith

-- keys of four columns are equal if and only if all values tie
pub four_columns : (a b c d e f g h : Value) (xs ys : Row)
    → (((ties a e && ties b f) && ties c g) && ties d h) ≡ is_eq (by_key 4 (a ∷ b ∷ c ∷ d ∷ xs) (e ∷ f ∷ g ∷ h ∷ ys))
unfolding ties
four_columns a b c d e f g h xs ys = grind arith

-- the other way round
pub turned : (keys : ℕ) (a b : Row) → is_eq (by_key keys a b) ≡ is_eq (by_key keys b a)
turned keys a b = reversed (by_key keys a b) (by_key keys b a) ((key_total keys).antisymm a b)
  where
    reversed : (o p : Ordering) → o ≡ ordering_reverse p → is_eq o ≡ is_eq p
    reversed o p e = grind arith

-- ---- texts of one value

-- facilities with one text are equal
pub one_facility : (f g : Facility) → facility_text f ≡ facility_text g → f ≡ g
one_facility f g h = grind arith

-- roles with one text are equal
pub one_role : (q r : Role) → role_text q ≡ role_text r → q ≡ r
one_role q r h = grind arith

-- numbers, or none, that are one value are equal
pub one_number : (x y : Option ℕ) → int_or_null x ≡ int_or_null y → x ≡ y
one_number x y h = grind arith
