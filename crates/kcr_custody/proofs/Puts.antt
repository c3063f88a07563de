-- A row put under its key.
use Rattle.std.proofs.Common.{◌≡◌, ℕ, Bool, true, cond, ◌&&◌, ◌||◌, List, [], ◌∷◌, map, find, Some, refl, arith}
use Rattle.std.specs.List.{list_any, list_all}
use Rattle.std.proofs.{lemmas.Bool.and_parts, Math.Bool.or-false}
use Rattle.kcr_base.specs.{Same.same_text, Rows.put, Rows.put_all}
use Rattle.kcr_base.proofs.SameLemmas.{same-is, same-turned}
use Rattle.kcr_custody.specs.Balance.{all_differ}

-- a test that the new row passes, and each row whose key is another
pub all_put : {X : Type 0} (same : X → X → Bool) (P Q : X → Bool) (row : X) → Q row ≡ true → ((x : X) → P x ≡ true → (Q x || same row x) ≡ true)
    → (rows : List X) → list_all P rows ≡ true → list_all Q (put same row rows) ≡ true
all_put {X} same P Q row q f rows h = grind (arith, q, each rows h)
  where
    each : (olds : List X) → list_all P olds ≡ true
        → (list_all Q (map (λ old. cond (same row old) row old) olds) && (list_any (same row) olds || list_all Q olds)) ≡ true
    each [] g = refl
    each (old ∷ olds) g = grind (arith, q, g, f old, each olds)

-- all new rows, and each row whose key is none of theirs
pub all_put_all : {X : Type 0} (same : X → X → Bool) (Q : X → Bool) (changes rows : List X) → list_all Q changes ≡ true
    → list_all (λ old. Q old || list_any (λ c. same c old) changes) rows ≡ true → list_all Q (put_all same changes rows) ≡ true
all_put_all same Q [] rows q h = simp or-false at h
all_put_all same Q (row ∷ changes) rows q h =
    let p = and_parts (Q row) (list_all Q changes) q in
    all_put_all same Q changes (put same row rows) p.1
    (all_put same _ (λ old. Q old || list_any (λ c. same c old) changes) row (rw p.0) (λ old g. grind (arith, g)) rows h)

-- all images pass the test
pub all_images : {X Y : Type 0} (Q : Y → Bool) (f : X → Y) → ((x : X) → Q (f x) ≡ true) → (xs : List X) → list_all Q (map f xs) ≡ true
all_images Q f h [] = refl
all_images Q f h (x ∷ xs) = rw (h x, all_images Q f h xs)

-- ROWS WITH A KEY

module _ {X : Type 0} (key : X → List ℕ) where
  abbrev pub same_key : X → X → Bool
  same_key row old = same_text (key old) (key row)

  -- a key is among those of the rows if and only if some row has it
  pub any_key : (k : List ℕ) (rows : List X) → list_any (same_text k) (map key rows) ≡ list_any (λ old. same_text (key old) k) rows
  any_key k [] = refl
  any_key k (old ∷ rows) = rw (same-turned k (key old), any_key k rows)

  keys_map : (row : X) (rows : List X) → map key (map (λ old. cond (same_key row old) row old) rows) ≡ map key rows
  keys_map row [] = refl
  keys_map row (old ∷ rows) = grind (arith, same-is (key old) (key row), keys_map row rows)

  -- no key stands twice after several puts either
  pub differ_put_all : (changes rows : List X) → all_differ (map key rows) ≡ true → all_differ (map key (put_all same_key changes rows)) ≡ true
  differ_put_all [] rows h = h
  differ_put_all (row ∷ changes) rows h =
      differ_put_all changes (put same_key row rows) (grind (arith, h, keys_map row rows, any_key (key row) rows))

  -- by its key the new row is found where it replaced one, and by another what was found before
  pub found_in : (row : X) (k : List ℕ) (rows : List X) → find (λ old. same_text (key old) k) (map (λ old. cond (same_key row old) row old) rows)
      ≡ cond (list_any (same_key row) rows && same_text (key row) k) (Some row) (find (λ old. same_text (key old) k) rows)
  found_in row k [] = refl
  found_in row k (old ∷ rows) = grind (arith, same-is (key old) (key row), same-is (key row) k, found_in row k rows)

  -- rows under keys that are all there leave the keys
  pub keys_stay_all : (ks : List (List ℕ)) (changes rows : List X) → map key rows ≡ ks
      → list_all (λ c. list_any (same_text (key c)) ks) changes ≡ true → map key (put_all same_key changes rows) ≡ ks
  keys_stay_all ks [] rows e h = e
  keys_stay_all ks (row ∷ changes) rows e h =
      grind (arith, e, h, any_key (key row) rows, keys_map row rows, keys_stay_all ks changes (put same_key row rows))
