-- Two rows with one value in their first column, which is their key.
use Rattle.std.proofs.Common.{◌≡◌, ◌==◌, true, ℕ, pos, List, [], ◌∷◌, sym, ◌∙◌, arith}
use Rattle.std.specs.Ordering.{is_eq}
use Rattle.std.proofs.lemmas.{Bool.Decides.nat_tests, Slice.Eq.bytes_eq-Decides}
use Rattle.sqlite.specs.declared.types.Value.TheVariants.{Int, Text}
use Rattle.kcr_base.specs.Same.{same_text}
use Rattle.kcr_rows.specs.Keyed.{by_key}
use Rattle.kcr_rows.proofs.SameLemmas.{text_ties, number_ties, one_column}

pub one_text : (key a b : List ℕ) → same_text a key ≡ true → same_text b key ≡ true → is_eq (by_key 1 (Text a ∷ []) (Text b ∷ [])) ≡ true
one_text key a b p q =
    sym (text_ties a b ∙ one_column (Text a) (Text b) [] [])
    ∙ (bytes_eq-Decides a b).1 ((bytes_eq-Decides a key).0 p ∙ sym ((bytes_eq-Decides b key).0 q))

pub one_number : (key a b : ℕ) → (a == key) ≡ true → (b == key) ≡ true → is_eq (by_key 1 (Int (pos a) ∷ []) (Int (pos b) ∷ [])) ≡ true
one_number key a b p q = sym (number_ties a b ∙ one_column (Int (pos a)) (Int (pos b)) [] []) ∙ same
  where
    same : (a == b) ≡ true
    same = grind (arith, nat_tests, p, q)
