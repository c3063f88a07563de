-- What the search for an invalid row finds.
use Rattle.std.proofs.Common.{◌≡◌, ◌<◌, ℕ, zero, suc, List, [], ◌∷◌, map, length, get_or, inl, inr, ap, IsPermutation, arith}
use Rattle.std.specs.Prelude.{Option, Some, None, IfSome}
use Rattle.std.proofs.lemmas.List.Sorted.{IsPermutation-sym}
use Rattle.sqlite.specs.Order.{Row}
use Rattle.sqlite_rules.specs.Lists.{Has}
use Rattle.kcr_rows.proofs.PutLemmas.{has_same}
use Rattle.kcr_validity.specs.Rows.{IsInvalidOf}
use Rattle.kcr_rows.specs.declared.kinds.Kind.{Kind}

-- what is made of an element of a list is among what is made of all
pub has_mapped : {X Y : Type 0} (f : X → Y) (xs : List X) (i : ℕ) (x : X) → i < length xs → x ≡ get_or xs i x → Has (map f xs) (f x)
has_mapped f [] i x h is = absurd (omega arith)
has_mapped f (y ∷ ys) zero x h is = inl (ap f is)
has_mapped f (y ∷ ys) (suc i) x h is = inr (has_mapped f ys i x (omega arith) is)

-- a row that is invalid among those that are shown, if one was found, is so among the same rows in any other order
pub found_among : (kinds : List Kind) (rows shown : List Row) (found : Option Row) → IsPermutation rows shown
    → IfSome found (IsInvalidOf kinds shown) → IfSome found (IsInvalidOf kinds rows)
found_among kinds rows shown None same is = tt
found_among kinds rows shown (Some row) same is =
    record { there = has_same shown rows row (IsPermutation-sym rows shown same) is.there; invalid = is.invalid }
