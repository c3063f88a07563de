-- The keys that were seen so far.
use Rattle.kcr_audit.proofs.Common.{◌≡◌, ℕ, ◌+◌, ◌<◌, ◌≤◌, Bool, true, false, cond, List, take, length, get_or, refl, sym, ap, ◌∙◌, arith, list_any}
use Rattle.kcr_audit.proofs.Common.{count_by, true≢false, le-ltb, same_text, same-is, same-itself, KeyRow, Finding, FullView, IsTrueOf, rank}
use Rattle.kcr_audit.proofs.{Common.is_key_duplicate, Found.none-counted, Found.some-counted}
use Rattle.std.proofs.lemmas.List.{Folds.list_any_more, Sums.count_by_more_yes, Sums.count_by_more_no, Sums.sum_by-take-le}
use Rattle.kcr_history.specs.declared.views.Finding.TheVariants as Findings

-- the row has the key
abbrev has : List ℕ → KeyRow → Bool
has key row = same_text row.key key

-- the keys of these rows were seen, and none of them is doubled
pub record Seen (rows : List KeyRow) (seen : List ℕ → Bool) : Type 0 where
  pub told : (key : List ℕ) → seen key ≡ list_any (has key) rows
  pub once : (key : List ℕ) → count_by (has key) rows ≤ 1

-- at a step of a loop: one row more, of a key that was not seen, or of one that was, which is doubled then
module _ (rows : List KeyRow) (i : ℕ) (row : KeyRow) (old : List ℕ → Bool) (l : i < length rows) (is : row ≡ get_or rows i row)
    (s : Seen (take i rows) old) where
  has-here : (key : List ℕ) (b : Bool) → has key row ≡ b → has key (get_or rows i row) ≡ b
  has-here key b e = ap (has key) (sym is) ∙ e

  -- with a row whose key was not seen, the keys of one row more are those seen
  pub seen-more : (new : List ℕ → Bool) → old row.key ≡ false → ((key : List ℕ) → new key ≡ cond (same_text row.key key) true (old key))
      → Seen (take (i + 1) rows) new
  seen-more new fresh updates = record { told = told; once = once }
    where
      told : (key : List ℕ) → new key ≡ list_any (has key) (take (i + 1) rows)
      told key = grind (arith, updates key, s.told key, list_any_more (has key) rows i row l, has-here key (has key row) refl)

      once : (key : List ℕ) → count_by (has key) (take (i + 1) rows) ≤ 1
      once key =
          grind (
            arith,
            s.once key,
            s.told row.key,
            none-counted,
            same-is,
            has-here,
            count_by_more_yes (has key) rows i row l,
            count_by_more_no (has key) rows i row l,
          )

  -- a row whose key was seen has a key that is doubled
  pub seen-again : old row.key ≡ true → is_key_duplicate rows row.key ≡ true
  seen-again again =
      grind (
        arith,
        some-counted,
        s.told row.key,
        same-itself,
        count_by_more_yes (has row.key) rows i row l,
        has-here row.key true,
        sum_by-take-le (λ x. cond (has row.key x) 1 0) rows (i + 1),
      )

-- if no key was seen twice, none is doubled
pub seen-all : (rows : List KeyRow) (seen : List ℕ → Bool) → Seen rows seen → (key : List ℕ) → is_key_duplicate rows key ≡ false
seen-all rows seen s key = le-ltb 1 (count_by (has key) rows) (s.once key)

-- if no key is doubled, there is none to be found
pub none-doubled : (view : FullView) → ((key : List ℕ) → is_key_duplicate view.keys.items key ≡ false) → (finding : Finding) → rank finding ≡ 3
    → IsTrueOf view finding → ⊥
none-doubled view none (Findings.Key key) r h = true≢false (sym h ∙ none key)
none-doubled view none other r h = omega (arith, r)
