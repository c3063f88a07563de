-- Which rows of a table have the key of a new row.
use Rattle.kcr_rows.proofs.Common.{◌≡◌, true≢false, Some, ℕ, ℤ, zero, suc, ◌&&◌, not, Bool, true, false, List, [], ◌∷◌, refl, sym, ap, ◌∙◌, arith}
use Rattle.kcr_rows.proofs.Common.{rules, list_any, is_eq, and_parts, false_from_ne_true, not-true, Value, Int, Row, column, value_cmp, is_null}
use Rattle.kcr_rows.proofs.Common.{is_true, from_truth, key_cmp, Binary, rowid, equal, differ, agree, plain, rising, Has, some_from, TableLayout}
use Rattle.kcr_rows.proofs.Common.{cells, by_key, is_full}
use Rattle.sqlite.specs.Ops.{binary}
use Rattle.sqlite_value.proofs.KeyLemmas.{first_key-plain}
use Rattle.sqlite_rules.specs.Edit.{id_in, is_taken}

-- the places of N columns, from this one on
abbrev pub places_from : ℕ → ℕ → List ℕ
places_from at zero = []
places_from at (suc count) = at ∷ places_from (suc at) count

-- none of N columns of a row, from this one on, is NULL
abbrev pub full : ℕ → ℕ → Row → Bool
full at zero row = true
full at (suc count) row = not (is_null (column row at)) && full (suc at) count row

-- SQL's truth of a truth value is that value
pub truth_is : (b : Bool) → is_true (from_truth (Some b)) ≡ b
truth_is b = grind arith

-- SQL's `=` of two values that are there is a tie
pub equal_is : (a b : Value) → is_null a ≡ false → is_null b ≡ false → equal Binary a b ≡ is_eq (value_cmp a b)
unfolding binary
equal_is a b there here = rw (there, here) (truth_is (is_eq (value_cmp a b)))

-- two rows whose keys have no NULL agree on them if and only if the order of the keys finds them equal
pub agree_is : (count at : ℕ) (a b : Row) → full at count a ≡ true → full at count b ≡ true
    → agree plain (places_from at count) a (places_from at count) b ≡ is_eq (key_cmp at (rising count []) a b)
agree_is zero at a b f g = refl
agree_is (suc count) at a b f g =
    let fa = and_parts _ _ f in
    let fb = and_parts _ _ g in
    search (rules, first_key-plain, equal_is, not-true, agree_is count (suc at) a b fa.1 fb.1)

-- SQL's `<>` of two values that are there is no tie
pub differ_is : (a b : Value) → is_null a ≡ false → is_null b ≡ false → differ a b ≡ not (is_eq (value_cmp a b))
unfolding binary
differ_is a b there here = search (rules, truth_is)

-- if no element passes, an element of the list fails
pub not_any : {X : Type 0} (p : X → Bool) (xs : List X) (x : X) → list_any p xs ≡ false → Has xs x → p x ≡ false
not_any p xs x none h = false_from_ne_true _ (λ is. true≢false (sym (some_from p xs x h is) ∙ none))

alone : (a b : Bool) → (a && b) ≡ false → b ≡ true → a ≡ false
alone a b none h = grind arith

-- an entry agrees with one of these values on the columns of the key if it has their key
module _ (place : TableLayout) (entry values : Row)
    (compares : (a b : Row) → by_key place.keys (cells place a) (cells place b) ≡ key_cmp 1 (rising place.keys []) a b)
    (fulls : (a : Row) → is_full place.keys (cells place a) ≡ full 1 place.keys a)
    (shown : cells place entry ≡ values) where
  -- an entry agrees with the new one on the key's columns if and only if it has the key of these values
  pub agrees : (r : Row) → is_full place.keys (cells place r) ≡ true → is_full place.keys values ≡ true
      → agree plain (places_from 1 place.keys) r (places_from 1 place.keys) entry ≡ is_eq (by_key place.keys (cells place r) values)
  agrees r whole filled = search (rules, agree_is)

-- the row has the same values in N columns, from this one on
abbrev pub same_from : ℕ → ℕ → Row → Row → Bool
same_from at zero row values = true
same_from at (suc count) row values = equal Binary (column row at) (column values at) && same_from (suc at) count row values

-- two rows have the same values in N columns if and only if they agree on these
pub same_is : (count at : ℕ) (a b : Row) → same_from at count a b ≡ agree plain (places_from at count) a (places_from at count) b
same_is zero at a b = refl
same_is (suc count) at a b = rw first_key-plain (ap (λ more. equal Binary (column a at) (column b at) && more) (same_is count (suc at) a b))

-- a row that does not clash with the new one has another key
module _ (place : TableLayout) (entries : List Row) (entry : Row) (id : ℤ) (values : Row)
    (compares : (a b : Row) → by_key place.keys (cells place a) (cells place b) ≡ key_cmp 1 (rising place.keys []) a b)
    (fulls : (a : Row) → is_full place.keys (cells place a) ≡ full 1 place.keys a)
    (numbered : rowid entry ≡ Int id)
    (shown : cells place entry ≡ values)
    (free : is_taken entries entry ≡ false) where
  abbrev target : List ℕ
  target = places_from 1 place.keys

  -- it has a row id, and no entry has the same
  there_is : is_null (rowid entry) ≡ false
  there_is = ap is_null numbered

  apart : (r : Row) → Has entries r → is_eq (value_cmp (rowid r) (rowid entry)) ≡ false
  apart r h = not_any (λ x. is_eq (value_cmp (rowid x) (rowid entry))) entries r free h

  -- an entry that does not clash with the new one on the key's columns does not have the key of these values
  pub fresh_key : (r : Row) → Has entries r → rowid r ≡ Int (id_in (rowid r)) → is_full place.keys (cells place r) ≡ true → is_full place.keys values ≡ true
      → (agree plain target r target entry && differ (rowid r) (rowid entry)) ≡ false
      → is_eq (by_key place.keys (cells place r) values) ≡ false
  fresh_key r h own whole filled none = search (rules, agrees, alone, differ_is, there_is, apart)
