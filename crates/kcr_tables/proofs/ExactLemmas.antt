-- That rows are those of values that are shown, whatever a table has.
use Rattle.kcr_tables.proofs.Common.{◌≡◌, inl, inr, Bool, true, false, cond, List, [], ◌∷◌, ◌++◌, map, filter, take, Result, IfOk, refl, sym}
use Rattle.kcr_tables.proofs.Common.{IsPermutation, Vec, Global, rules, AllByRecursion, list_any, nil_from_length, IsPermutation-sym, IsOneOf}
use Rattle.kcr_tables.proofs.Common.{length_permutation, Row, Has, all_has, all_from, some_has, has_left, has_right, has_kept, all-append, all_weaker}
use Rattle.kcr_tables.proofs.Common.{Refusal, Selection, Matching, if_ok, has_same, mapped_from, asked_once, is_under_any, asked_of, AreShown}
use Rattle.kcr_tables.proofs.HasLemmas.{filter_from, filter_is}

module _ {X : Type 0} (row_of : X → Row) where
  -- the rows of the values, in another order
  pub are_shown : (rows : List Row) (shown : List X) → IsPermutation rows (map row_of shown) → AreShown row_of shown rows
  are_shown rows shown same = all_from (λ row. (x : X) × Has shown x × (row ≡ row_of x)) rows
      (λ row h. mapped_from row_of shown row (has_same rows (map row_of shown) row same h))

  shown_too : (shown more : List X) → ((x : X) → Has shown x → Has more x) → (rows : List Row) → AreShown row_of shown rows → AreShown row_of more rows
  shown_too shown more among rows all = search (rules, all_weaker)

  -- if more values are shown
  pub shown_left : (shown more : List X) (rows : List Row) → AreShown row_of shown rows → AreShown row_of (shown ++ more) rows
  shown_left shown more = shown_too shown (shown ++ more) (has_left shown more)

  -- ---- rows that are asked for

  -- values of some rows show what is asked for, if that is these rows
  pub shown_as : {wanted rows : List Row} → wanted ≡ rows → (r : Result (Vec X Global) Refusal)
      → IfOk r (λ all. IsPermutation rows (map row_of all.items)) → IfOk r (λ all. AreShown row_of all.items wanted)
  shown_as {rows = rows} is r h = rw is (if_ok _ _ (λ all same. are_shown rows all.items same) r h)

  -- values that show the rows under a key show what is asked for under this key
  pub shown_asked : {K : Type 0} (is_under : K → Row → Bool) {asked : Selection K} (key : K) {inner : K} (rows : List Row)
      → asked ≡ Matching inner → inner ≡ key → (r : Result (Vec X Global) Refusal)
      → IfOk r (λ it. AreShown row_of it.items (filter (is_under key) rows)) → IfOk r (λ it. AreShown row_of it.items (asked_of is_under asked rows))
  shown_asked is_under key rows is same r h = rw (is, same) h

  -- ---- rows found by a list of keys, of which some may be the same

  module _ {K : Type 0} (under : K → Row → Bool) (rows : List Row) where
    -- the rows of each of the keys
    abbrev pub EachAreShown : List X → List K → Type 0
    EachAreShown shown = AllByRecursion (λ key. AreShown row_of shown (filter (under key) rows))

    one_has : (shown : List X) (row : Row) → Has rows row → (keys : List K) → is_under_any under keys row ≡ true → EachAreShown shown keys → (x : X)
        × Has shown x × (row ≡ row_of x)
    one_has shown row there keys is each =
        let k = some_has (λ k. under k row) keys is in
        all_has (λ r. (x : X) × Has shown x × (r ≡ row_of x)) (filter (under k.0) rows) row
        (all_has (λ k. AreShown row_of shown (filter (under k) rows)) keys k.0 each k.1) (has_kept (under k.0) rows row there k.2)

    -- values that show the rows of each key show the rows of any of the keys
    pub each_any : (shown : List X) (keys : List K) → EachAreShown shown keys → AreShown row_of shown (filter (is_under_any under keys) rows)
    each_any shown keys each =
        all_from (λ row. (x : X) × Has shown x × (row ≡ row_of x)) (filter (is_under_any under keys) rows)
        (λ row h. one_has shown row (filter_from (is_under_any under keys) rows row h) keys (filter_is (is_under_any under keys) rows row h) each)

    module _ (same : K → K → Bool) (one : (a b : K) → same a b ≡ true → a ≡ b) where
      -- one key more
      pub each_next : (keys : List K) (key : K) (shown found : List X) → EachAreShown shown keys → AreShown row_of found (asked_once same under key keys rows)
          → EachAreShown (shown ++ found) (keys ++ key ∷ [])
      each_next keys key shown found each once =
          all-append (λ k. AreShown row_of (shown ++ found) (filter (under k) rows)) keys (key ∷ [])
          (all_weaker _ (λ k. AreShown row_of (shown ++ found) (filter (under k) rows)) (λ k. shown_left shown found _) keys each)
          (by_test (list_any (same key) keys) refl once, tt)
        where
          by_test : (b : Bool) → list_any (same key) keys ≡ b → AreShown row_of found (cond b [] (filter (under key) rows))
              → AreShown row_of (shown ++ found) (filter (under key) rows)
          by_test true e once =
              let k = some_has (same key) keys e in
              shown_left shown found _ (rw (one key k.0 k.2) (all_has (λ k. AreShown row_of shown (filter (under k) rows)) keys k.0 each k.1))
          by_test false e once = shown_too found (shown ++ found) (has_right shown found) _ once

-- ---- the first of the rows, in some order

-- the first of some rows in another order is one of them, or there is none
pub one_of : (rows ordered : List Row) → IsPermutation rows ordered → (shown : List Row) → shown ≡ take 1 ordered → IsOneOf rows shown
one_of rows [] same shown is = inl (nil_from_length rows (sym (length_permutation rows [] same)), is)
one_of rows (row ∷ ordered) same shown is = inr (row, is, has_same (row ∷ ordered) rows row (IsPermutation-sym rows (row ∷ ordered) same) (inl refl))
