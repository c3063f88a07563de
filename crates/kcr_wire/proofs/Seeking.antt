-- The walk of a router along a path, piece by piece.
use Rattle.kcr_wire.proofs.Common.{◌||◌, if◌then◌else◌, nat_eq, ◌≡◌, ℕ, zero, suc, ◌-◌, ◌<◌, Bool, true, false, cond, ◌&&◌, ltb, eqb, List, [], ◌∷◌}
use Rattle.kcr_wire.proofs.Common.{◌++◌, length, Option, Some, None, refl, ap, ◌∙◌, arith, length-append, drop, All, cond_some, option_map, All-head}
use Rattle.kcr_wire.proofs.Common.{All-tail, drop-append_seam, and_parts, eqb-true, ne_eqb, lt-ltb, nat_tests, list_all, list_any, nil_from_length}
use Rattle.kcr_wire.proofs.Common.{RowsOf, param_token, catch_all_token, segment, better, cuts, step, or_else, longest_from, longest_suffix}
use Rattle.kcr_wire.proofs.{Common.with_suffix, Common.IsKeyByte, Paths.Leg, Paths.path_on, Paths.AreLegs}
use Rattle.std.specs.Option.{option_and_then}
use Rattle.matchit.specs.Seek.{param_step, seek}
use Rattle.kcr_wire.proofs.Bytes.{IsWord, word-below, word-slash}

abbrev pub slash_or_end : List ℕ → Bool
slash_or_end [] = true
slash_or_end (x ∷ t) = eqb x 47

abbrev pub first_is : ℕ → List ℕ → Bool
first_is b [] = false
first_is b (x ∷ t) = eqb x b

segment-slash : (x : ℕ) (t : List ℕ) → eqb x 47 ≡ true → segment (x ∷ t) ≡ 47 ∷ []
segment-slash x t h = rw h (ap (λ y. y ∷ []) (eqb-true x 47 h))

better-none : (seg best : List ℕ) → better seg best [] ≡ best
better-none seg best = grind (arith, nat_tests)

better-slash : (found : Bool) (seg : List ℕ) → cuts seg (47 ∷ []) ≡ true → better seg (if found then 47 ∷ [] else []) (47 ∷ []) ≡ 47 ∷ []
better-slash true seg cut = refl
better-slash false seg cut = rw cut refl

-- the segment of a path that begins with a piece
pub segment-piece : (w rest : List ℕ) → All (λ b. eqb b 47 ≡ false) w → segment (w ++ 47 ∷ rest) ≡ w ++ 47 ∷ []
segment-piece [] rest lacks = refl
segment-piece (b ∷ w) rest lacks =
    let here = All-head (λ x. eqb x 47 ≡ false) b w lacks in
    rw here (ap (λ t. b ∷ t) (segment-piece w rest (All-tail (λ x. eqb x 47 ≡ false) b w lacks)))

cuts-slash : (b : ℕ) (w : List ℕ) → cuts (b ∷ (w ++ 47 ∷ [])) (47 ∷ []) ≡ true
cuts-slash b w =
    let seg = b ∷ (w ++ 47 ∷ []) in
    let size : length seg - 1 ≡ length (b ∷ w) = omega (arith, length-append w (47 ∷ [])) in
    let last : drop (length seg - 1) seg ≡ 47 ∷ [] = ap (λ n. drop n seg) size ∙ drop-append_seam (b ∷ w) (47 ∷ []) in
    let long : ltb 1 (length seg) ≡ true = lt-ltb 1 (length seg) (omega (arith, length-append w (47 ∷ []))) in
    rw (long, last) refl

-- the rest of a path behind a piece begins with a slash
begins : (legs : List Leg) (end : List ℕ) → first_is 47 end ≡ true → (rest : List ℕ) × (path_on legs end ≡ 47 ∷ rest)
begins [] [] slash = cc
begins [] (x ∷ end) slash = (end, ap (λ x. x ∷ end) (eqb-true x 47 slash))
begins (l ∷ legs) end slash = (l.front ++ (l.piece ++ path_on legs end), refl)

module _ {K : Type 0} where
  or_else-none : (a : Option K) → or_else a None ≡ a
  or_else-none a = grind arith

  param_step-empty : (p : List ℕ) → (param_step {K = K} [] p).1 ≡ []
  unfolding param_step
  param_step-empty p = grind arith

  seek-empty : (k : ℕ) (p : List ℕ) → seek {K = K} k [] p ≡ None
  unfolding seek
  seek-empty k [] = refl
  seek-empty (suc k) (b ∷ p) = seek-empty k p
  seek-empty zero (b ∷ p) = simp (seek-empty 0 p, param_step-empty (b ∷ p), seek-empty (((param_step {K = K} [] (b ∷ p)).0) - 1) p)

  seek-skip : (w rest : List ℕ) (rs : RowsOf K) → seek (length w) rs (w ++ rest) ≡ seek 0 rs rest
  unfolding seek
  seek-skip [] rest rs = refl
  seek-skip (x ∷ w) rest rs = seek-skip w rest rs

  -- ---- a literal

  -- the rows that go on after these bytes
  abbrev pub walked : List ℕ → RowsOf K → RowsOf K
  walked [] rs = rs
  walked (b ∷ w) rs = walked w (step b rs)

  -- no row has a parameter on the way
  abbrev pub is_literal : List ℕ → RowsOf K → Bool
  is_literal [] rs = true
  is_literal (b ∷ w) rs = (nat_eq (length (step param_token rs)) 0 && nat_eq (length (step catch_all_token rs)) 0) && is_literal w (step b rs)

  -- a search passes bytes that no parameter could take
  pub seek-literal : (w rest : List ℕ) (rs : RowsOf K) → is_literal w rs ≡ true → seek 0 rs (w ++ rest) ≡ seek 0 (walked w rs) rest
  unfolding seek
  seek-literal [] rest rs h = refl
  seek-literal (b ∷ w) rest rs h =
      let both = and_parts _ _ h in
      let none = and_parts _ _ both.0 in
      let params = nil_from_length (step param_token rs) (eqb-true _ 0 none.0) in
      let catches = nil_from_length (step catch_all_token rs) (eqb-true _ 0 none.1) in
      simp (params, catches, param_step-empty (b ∷ (w ++ rest)), seek-empty ((param_step {K = K} [] (b ∷ (w ++ rest))).0 - 1) (w ++ rest), or_else-none)
      (seek-literal w rest (step b rs) both.1)

  -- ---- a piece that a parameter takes

  -- each row goes on with a parameter
  abbrev all_params : RowsOf K → Bool
  all_params rs = list_all (λ (r : List ℕ × K). first_is param_token r.0) rs

  -- so none goes on with another token
  step-other : (b : ℕ) (rs : RowsOf K) → eqb param_token b ≡ false → all_params rs ≡ true → step b rs ≡ []
  step-other b [] other h = refl
  step-other b (([], key) ∷ rest) other h = cc
  step-other b ((x ∷ t, key) ∷ rest) other h =
      let both = and_parts _ _ h in
      rw (eqb-true x param_token both.0, other) (step-other b rest other both.1)

  -- each row ends here or goes on with a slash, and some row does that
  abbrev slashes : RowsOf K → Bool
  slashes rs = list_all (λ (r : List ℕ × K). slash_or_end r.0) rs

  abbrev some_slash : RowsOf K → Bool
  some_slash rs = list_any (λ (r : List ℕ × K). first_is 47 r.0) rs

  -- the longest suffix is a slash, if it was found before or some row has it
  longest-found : (found : Bool) (seg : List ℕ) (rs : RowsOf K) → cuts seg (47 ∷ []) ≡ true → slashes rs ≡ true → (found || some_slash rs) ≡ true
      → longest_from seg (if found then 47 ∷ [] else []) rs ≡ 47 ∷ []
  longest-found true seg [] cut h some = refl
  longest-found false seg [] cut h some = cc
  longest-found found seg (([], key) ∷ rest) cut h some =
      rw (better-none seg (if found then 47 ∷ [] else [])) (longest-found found seg rest cut h some)
  longest-found found seg ((x ∷ t, key) ∷ rest) cut h some =
      let both = and_parts _ _ h in
      rw (segment-slash x t both.0, better-slash found seg cut) (longest-found true seg rest cut both.1 refl)

  -- a parameter takes a piece, where each row goes on with one
  pub seek-piece : (b : ℕ) (w rest : List ℕ) (rs : RowsOf K) → b < 256 → All (λ x. eqb x 47 ≡ false) (b ∷ w) → all_params rs ≡ true
      → slashes (step param_token rs) ≡ true → some_slash (step param_token rs) ≡ true
      → seek 0 rs ((b ∷ w) ++ 47 ∷ rest) ≡ seek 0 (with_suffix (47 ∷ []) (step param_token rs)) (47 ∷ rest)
  unfolding seek param_step
  seek-piece b w rest rs small lacks params all some =
      let path = (b ∷ w) ++ 47 ∷ rest in
      let seg : segment path ≡ b ∷ (w ++ 47 ∷ []) = segment-piece (b ∷ w) rest lacks in
      let longest : longest_suffix (b ∷ (w ++ 47 ∷ [])) (step param_token rs) ≡ 47 ∷ [] =
      longest-found false (b ∷ (w ++ 47 ∷ [])) (step param_token rs) (cuts-slash b w) all some in
      let size : (length (b ∷ (w ++ 47 ∷ [])) - 1) - 1 ≡ length w = omega (arith, length-append w (47 ∷ [])) in
      let catches = step-other catch_all_token rs refl params in
      let bytes = step-other b rs (ne_eqb 256 b (λ e. omega (arith, small, e))) params in
      let taken : param_step (step param_token rs) path ≡ (length (b ∷ (w ++ 47 ∷ [])) - 1, with_suffix (47 ∷ []) (step param_token rs)) = rw (seg, longest) refl in
      rw (bytes, catches, taken, size, seek-empty 0 (w ++ 47 ∷ rest)) (or_else-none _ ∙ seek-skip w (47 ∷ rest) (with_suffix (47 ∷ []) (step param_token rs)))

  -- ---- whole routes

  -- the rows after these bytes and a parameter
  abbrev pub after_piece : List ℕ → RowsOf K → Option (RowsOf K)
  after_piece front rs =
      let taken = step param_token (walked front rs) in
      cond ((is_literal front rs && all_params (walked front rs)) && (slashes taken && some_slash taken)) (Some (with_suffix (47 ∷ []) taken)) None

  piece-found : (front : List ℕ) (rs next : RowsOf K) → after_piece front rs ≡ Some next → (piece rest : List ℕ) → IsWord piece
      → seek 0 rs (front ++ (piece ++ 47 ∷ rest)) ≡ seek 0 next (47 ∷ rest)
  piece-found front rs next h [] rest is = absurd (omega (arith, is.some))
  piece-found front rs next h (b ∷ w) rest is =
      let byte = word-below b (All-head IsKeyByte b w is.bytes) in
      let small : b < 256 = omega (arith, byte) in
      let taken = step param_token (walked front rs) in
      let all = cond_some ((is_literal front rs && all_params (walked front rs)) && (slashes taken && some_slash taken)) (with_suffix (47 ∷ []) taken) next h in
      let both = and_parts _ _ all.0 in
      let on = and_parts _ _ both.0 in
      let after = and_parts _ _ both.1 in
      seek-literal front ((b ∷ w) ++ 47 ∷ rest) rs on.0
      ∙ seek-piece b w rest (walked front rs) small (word-slash (b ∷ w) is.bytes) on.1 after.0 after.1
      ∙ ap (λ (r : RowsOf K). seek 0 r (47 ∷ rest)) all.1

  -- the route of these legs and this end
  abbrev pub found_on : List Leg → List ℕ → RowsOf K → Option K
  found_on [] end rs = seek 0 rs end
  found_on (l ∷ legs) end rs = option_and_then (found_on legs end) (after_piece (47 ∷ l.front) rs)

  -- a search along the path of these legs finds it
  pub route-on : {V : Type 0} (f : K → V) (legs : List Leg) (end : List ℕ) (rs : RowsOf K) (v : V) → AreLegs legs → first_is 47 end ≡ true
      → option_map f (found_on legs end rs) ≡ Some v → option_map f (seek 0 rs (path_on legs end)) ≡ Some v
  route-on f [] end rs v are slash h = h
  route-on {V} f (l ∷ legs) end rs v are slash h = by (after_piece (47 ∷ l.front) rs) refl h (λ next. route-on f legs end next v are.2 slash)
    where
      by : (o : Option (RowsOf K)) → after_piece (47 ∷ l.front) rs ≡ o → option_map f (option_and_then (found_on legs end) o) ≡ Some v
          → ((next : RowsOf K) → option_map f (found_on legs end next) ≡ Some v → option_map f (seek 0 next (path_on legs end)) ≡ Some v)
          → option_map f (seek 0 rs (path_on (l ∷ legs) end)) ≡ Some v
      by None e h more = cc
      by (Some next) e h more =
          let rest = begins legs end slash in
          ap (option_map f) (rw (← rest.1) at (piece-found (47 ∷ l.front) rs next e l.piece rest.0 are.1)) ∙ more next h
