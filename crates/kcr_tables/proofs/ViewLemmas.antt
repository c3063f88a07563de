-- The rows that are read are those that a decision asks for.
use Rattle.kcr_tables.proofs.Common.{◌≡◌, inl, inr, Bool, true, false, ℕ, List, slice_get, Option, Some, None, refl, sym, subst, ◌∙◌, arith}
use Rattle.kcr_tables.proofs.Common.{IsPermutation, rules, IsPermutation-sym, IsPermutation-trans, Database, IsPermutation-filter, Selection, Nothing}
use Rattle.kcr_tables.proofs.Common.{Matching, All, Includes, IncludesAll, greatest_number, IsGreatest, has_same, asked_of, asked_all, HoldsTables}
use Rattle.kcr_history.specs.declared.row_types.KeyRow.{KeyRow}
use Rattle.kcr_history.specs.Tables as machine
use Rattle.kcr_tables.proofs.{MostLemmas.shown_has, MostLemmas.shown_over, MostLemmas.most_same, NamedLemmas.twice}

-- ---- rows under a key, or all

-- the rows of a table in one order are those of it in another
pub shows_on : {X K : Type 0} (is_under : K → X → Bool) (asked : Selection K) (xs ys rows : List X) → IsPermutation xs ys → Includes is_under asked ys rows
    → Includes is_under asked xs rows
shows_on is_under Nothing xs ys rows p h = tt
shows_on is_under (Matching key) xs ys rows p h = IsPermutation-trans _ _ _ (IsPermutation-filter (is_under key) xs ys p) h
shows_on is_under All xs ys rows p h = IsPermutation-trans _ _ _ p h

-- the rows under a key, or all, of a table in one order are those asked for of it in another
pub asked_shows : {X K : Type 0} (is_under : K → X → Bool) (asked : Selection K) (xs ys rows : List X) → IsPermutation xs ys
    → rows ≡ asked_of is_under asked ys → Includes is_under asked xs rows
asked_shows {K = K} is_under asked xs ys rows p is = search (rules, twice, IsPermutation-filter)

-- the whole table in one order, if it is asked for, is the whole of it in another
pub all_shows : {X : Type 0} (asked : Bool) (xs ys rows : List X) → IsPermutation xs ys → rows ≡ asked_all asked ys → IncludesAll asked xs rows
all_shows true xs ys rows p is = subst (IsPermutation xs) (sym is) p
all_shows false xs ys rows p is = tt

-- ---- the greatest number

-- the number that the row of the last command tells, 0 if there is none
abbrev pub told : Option KeyRow → ℕ
told None = 0
told (Some row) = row.accepted

module _ (m : machine.Tables) (db : Database) (h : HoldsTables m db) where
  abbrev t : machine.Tables
  t = h.tables.t.rows

  -- the row with the greatest number tells that number
  pub greatest_told : (last : List KeyRow) → IsGreatest (λ x. x.accepted) t.keys last → told (slice_get last 0) ≡ greatest_number m.keys
  greatest_told last greatest =
      let keys = h.tables.stands.rows.keys in
      let first : told (slice_get last 0) ≡ greatest_number last = elim greatest [ inl none ↦ rw none.1 refl | inr some ↦ rw some.1 (omega arith) ] in
      first ∙ most_same (λ (x : KeyRow). x.accepted) greatest_number refl (λ x xs. refl) last m.keys
      (λ x i. (x, has_same _ _ x (IsPermutation-sym _ _ keys) (shown_has (λ (x : KeyRow). x.accepted) t.keys last greatest x i), omega arith))
      (λ x i. shown_over (λ (x : KeyRow). x.accepted) t.keys last greatest x (has_same _ _ x keys i))
