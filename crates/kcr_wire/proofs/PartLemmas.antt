-- The parts that the router finds in an ASCII path are texts, and so are their names.
use Rattle.kcr_wire.proofs.Common.{take, ◌≡◌, ℕ, zero, suc, ◌-◌, ◌<◌, Bool, true, cond, ltb, leb, eqb, ◌&&◌, List, [], ◌∷◌, length, drop, Option}
use Rattle.kcr_wire.proofs.Common.{Some, None, refl, arith, All, AllByRecursion, list_all, IsAscii, IsUtf8, cond_both, false_from_ne_true, nat_tests}
use Rattle.kcr_wire.proofs.Common.{cond_some, All-nil, All-take, All-drop, All-weaker, recursion_from_All, AllPass-from_list_all}
use Rattle.kcr_wire.proofs.Common.{list_all-from_AllPass, IsUtf8-from_ascii, IsAscii-from_all, AllText, part_of, walk, RouteOf, RowsOf, param_token}
use Rattle.kcr_wire.proofs.Common.{catch_all_token, first, has_slash, longest_suffix, or_else, own, segment, step, with_suffix, parts_in, Route}
use Rattle.std.specs.{Char.is_ascii, Option.IfSome}
use Rattle.matchit.specs.Seek.{param_step, same_text, seek}
use Rattle.matchit.proofs.OnLiterals.{matchit_on_literals}
use Rattle.kcr_wire.specs.{Endpoints.ascii_in, Routes.add, Routes.add_all, Routes.table}

-- ---- bytes that are ASCII

tested : (bytes : List ℕ) → All (λ b. b < 128) bytes → list_all is_ascii bytes ≡ true
tested bytes each = list_all-from_AllPass is_ascii bytes (All-weaker (λ b. b < 128) (λ b. is_ascii b ≡ true) (λ b h. grind (arith, nat_tests, h)) bytes each)

below : (bytes : List ℕ) → list_all is_ascii bytes ≡ true → All (λ b. b < 128) bytes
below bytes test = All-weaker (λ b. is_ascii b ≡ true) (λ b. b < 128) (λ b h. grind (arith, nat_tests, h)) bytes (AllPass-from_list_all is_ascii bytes test)

-- ASCII bytes are a text
pub ascii_in-some : (bytes : List ℕ) → All (λ b. b < 128) bytes → ascii_in bytes ≡ Some bytes
unfolding ascii_in
ascii_in-some bytes each = rw (tested bytes each) refl

-- other bytes are none
pub ascii_in-none : (bytes : List ℕ) → (IsAscii bytes → ⊥) → ascii_in bytes ≡ None
unfolding ascii_in
ascii_in-none bytes never = rw (false_from_ne_true (list_all is_ascii bytes) (λ e. never (IsAscii-from_all bytes (below bytes e)))) refl

ascii_in-is : (bytes text : List ℕ) → ascii_in bytes ≡ Some text → All (λ b. b < 128) text
unfolding ascii_in
ascii_in-is bytes text is = let parts = cond_some (list_all is_ascii bytes) bytes text is in rw parts.1 at (below bytes parts.0)

-- ---- what holds of each route holds of the one that is found

module _ {K : Type 0} (P : K → Type 0) where
  abbrev pub AllKeys : RowsOf K → Type 0
  AllKeys rows = AllByRecursion (λ (row : List ℕ × K). P row.1) rows

  own-key : (rs : RowsOf K) → AllKeys rs → IfSome (own rs) P
  own-key [] h = tt
  own-key (([], key) ∷ rest) h = h.0
  own-key ((x ∷ t, key) ∷ rest) h = own-key rest h.1

  -- a row that is kept if a test passes
  kept : (v : Bool) (row : List ℕ × K) (rs : RowsOf K) → P row.1 → AllKeys rs → AllKeys (cond v (row ∷ rs) rs)
  kept v row rs p h = cond_both v (row ∷ rs) rs AllKeys (λ _. (p, h)) (λ _. h)

  step-keys : (b : ℕ) (rs : RowsOf K) → AllKeys rs → AllKeys (step b rs)
  step-keys b [] h = h
  step-keys b (([], key) ∷ rest) h = step-keys b rest h.1
  step-keys b ((x ∷ t, key) ∷ rest) h = kept (eqb x b) (t, key) (step b rest) h.0 (step-keys b rest h.1)

  suffix-keys : (suffix : List ℕ) (rs : RowsOf K) → AllKeys rs → AllKeys (with_suffix suffix rs)
  suffix-keys suffix [] h = h
  suffix-keys suffix ((t, key) ∷ rest) h =
      kept (same_text (segment t) suffix) (t, key) (with_suffix suffix rest) h.0 (suffix-keys suffix rest h.1)

  taken-keys : (rs : RowsOf K) (path : List ℕ) → AllKeys rs → AllKeys (param_step rs path).1
  unfolding param_step
  taken-keys rs path h =
      let all = λ (p : ℕ × RowsOf K). AllKeys p.1 in
      cond_both (ltb 0 (length (longest_suffix (segment path) rs))) _ _ all (λ _. suffix-keys (longest_suffix (segment path) rs) rs h)
      (λ _. cond_both (has_slash path) (0, []) (length path, rs) all (λ _. tt) (λ _. h))

  first-of : (a b : Option K) → IfSome a P → IfSome b P → IfSome (or_else a b) P
  first-of None b h g = g
  first-of (Some key) b h g = h

  -- what holds of each route holds of one that a search finds
  pub seek-key : (n : ℕ) (rs : RowsOf K) (path : List ℕ) → AllKeys rs → IfSome (seek n rs path) P
  unfolding seek
  seek-key n rs [] h = own-key rs h
  seek-key (suc n) rs (b ∷ path) h = seek-key n rs path h
  seek-key zero rs (b ∷ path) h =
      first-of _ _ (seek-key 0 (step b rs) path (step-keys b rs h))
      (first-of _ _ (seek-key _ _ path (taken-keys (step param_token rs) (b ∷ path) (step-keys param_token rs h)))
      (own-key (step catch_all_token rs) (step-keys catch_all_token rs h)))

-- ---- parts of ASCII

part-text : (bytes : List ℕ) (start end : ℕ) → All (λ b. b < 128) bytes → IsUtf8 (part_of bytes start end)
part-text bytes start end each =
    let fits = leb start end && leb end (length bytes) in
    IsUtf8-from_ascii _ (IsAscii-from_all _ (cond_both fits (take (end - start) (drop start bytes)) [] (All (λ b. b < 128))
    (λ _. All-take (λ b. b < 128) (end - start) (drop start bytes) (All-drop (λ b. b < 128) start bytes each)) (λ _. All-nil (λ b. b < 128))))

-- the parts of an ASCII path are texts
pub walk-text : (pattern text path : List ℕ) (names : List (ℕ × ℕ)) (token at : ℕ) → All (λ b. b < 128) text → All (λ b. b < 128) path
    → AllText (walk pattern text path names token at)
walk-text pattern text path [] token at names_are path_is = tt
walk-text pattern text path (name ∷ names) token at names_are path_is =
    (part-text text name.0 name.1 names_are, part-text path _ _ path_is, walk-text pattern text path names _ _ names_are path_is)

-- ---- the register's routes

abbrev is_ascii_row : List ℕ × RouteOf Route → Bool
is_ascii_row row = list_all is_ascii row.1.text

ascii-rows : list_all is_ascii_row table ≡ true
unfolding matchit_on_literals table add_all add
ascii-rows = refl

ascii-route : (path : List ℕ) → IfSome (first table path) (λ r. list_all is_ascii r.text ≡ true)
ascii-route path =
    seek-key (λ (r : RouteOf Route). list_all is_ascii r.text ≡ true) 0 table path
    (recursion_from_All _ table (AllPass-from_list_all is_ascii_row table ascii-rows))

-- the parts of a path that is found are texts
pub parts-text : (bytes path : List ℕ) (r : RouteOf Route) → ascii_in bytes ≡ Some path → first table path ≡ Some r → AllText (parts_in r path)
parts-text bytes path r is found =
    let named : list_all is_ascii r.text ≡ true = rw found at (ascii-route path) in
    walk-text r.pattern r.text path r.names 0 0 (below r.text named) (ascii_in-is bytes path is)
