-- What the parameters of a route take from a path.
use Rattle.kcr_wire.proofs.Common.{◌≡◌, ℕ, get_or, cond, length-drop, ◌+◌, ◌-◌, ◌<◌, ◌≤◌, true, false, eqb, ltb, leb, List, [], ◌∷◌, ◌++◌, length}
use Rattle.kcr_wire.proofs.Common.{drop, refl, sym, ap, ◌∙◌, arith, map, length-append, All, drop-append_seam, take-append_seam, lt-ltb, le-ltb}
use Rattle.kcr_wire.proofs.Common.{eqb-true, drop-drop, get_or-drop, nat_tests, All-head, All-tail, after_token, part_of, walk, wild_from, wild_stop}
use Rattle.kcr_wire.proofs.{Common.segment, Bytes.word-slash, Seeking.segment-piece, Seeking.slash_or_end}
use Rattle.kcr_wire.proofs.Paths.{Leg, path_on, tokens_on, names_on, parts_on, AreLegs, front-below}

-- bytes of a route before its next parameter
wild-after : (bytes rest : List ℕ) (len token at : ℕ) → All (λ b. b < 256) bytes → at + length bytes ≤ len
    → wild_from (bytes ++ 256 ∷ rest) len token at ≡ (token + length bytes, at + length bytes)
wild-after [] rest len token at small room = grind arith
wild-after (b ∷ bytes) rest len token at small room =
    let byte = All-head (λ b. b < 256) b bytes small in
    let more = wild-after bytes rest len (token + 1) (at + 1) (All-tail (λ b. b < 256) b bytes small) (omega (arith, room)) in
    grind (arith, nat_tests, byte, more)

-- behind what stands at a place of a list stands the rest
past : (n : ℕ) (xs front rest : List ℕ) → drop n xs ≡ front ++ rest → drop (n + length front) xs ≡ rest
past n xs front rest e = sym (drop-drop (length front) n xs) ∙ ap (drop (length front)) e ∙ drop-append_seam front rest

-- and the list is as long as that
within : (n : ℕ) (xs front rest : List ℕ) → drop n xs ≡ front ++ rest → 0 < length front → n + length front + length rest ≡ length xs
within n xs front rest e some = omega (arith, length-drop n xs, ap length e, length-append front rest)

-- the part of a path between the two ends of a piece
part-at : (path : List ℕ) (at : ℕ) (piece rest : List ℕ) → drop at path ≡ piece ++ rest → 0 < length piece
    → part_of path at (at + length piece) ≡ piece
part-at path at piece rest there some =
    let room = within at path piece rest there some in
    let low : leb at (at + length piece) ≡ true = grind (arith, nat_tests) in
    let high : leb (at + length piece) (length path) ≡ true = grind (arith, nat_tests, room) in
    let few : at + length piece - at ≡ length piece = omega arith in
    rw (low, high, few, there) (take-append_seam piece rest)

-- where a parameter's piece ends, with these tokens behind the parameter and these bytes behind the piece
abbrev Ends : List ℕ → List ℕ → List ℕ → Type 0
Ends [] piece rest = rest ≡ []
Ends (x ∷ back) piece rest = length (segment (piece ++ rest)) ≡ length piece + length (segment (x ∷ back))

-- a piece ends where the walk stops
stop-at : (pattern path : List ℕ) (token at : ℕ) (back piece rest : List ℕ) → drop token pattern ≡ 256 ∷ back → drop at path ≡ piece ++ rest
    → 0 < length piece → Ends back piece rest → wild_stop pattern token path at ≡ at + length piece
stop-at pattern path token at back piece rest here there some ends =
    let room = within at path piece rest there some in
    let size = within token pattern (256 ∷ []) back here (omega arith) in
    let inside : ltb token (length pattern) ≡ true = lt-ltb _ _ (omega (arith, size)) in
    let zero : token + 0 ≡ token = omega arith in
    let read = get_or-drop token pattern 0 0 in
    let is : get_or pattern token 0 ≡ 256 = cc in
    rw (inside, is, there, past token pattern (256 ∷ []) back here) (by back ends size)
  where
    by : (back : List ℕ) → Ends back piece rest → token + 1 + length back ≡ length pattern
        → cond (ltb (token + 1) (length pattern)) (at + length (segment (piece ++ rest)) - length (segment back)) (length path) ≡ at + length piece
    by [] e size = rw (le-ltb (token + 1) (length pattern) (omega (arith, size))) (omega (arith, within at path piece rest there some, ap length e))
    by (x ∷ back) e size = rw (lt-ltb (token + 1) (length pattern) (omega (arith, size))) (omega (arith, e))

-- a slash behind the piece ends it, and so does the end of both
slash-ends : (piece rest : List ℕ) → All (λ b. eqb b 47 ≡ false) piece → length (segment (piece ++ 47 ∷ rest)) ≡ length piece + 1
slash-ends piece rest lacks = rw (segment-piece piece rest lacks) (length-append piece (47 ∷ []))

ends-on : (legs : List Leg) (end piece : List ℕ) → slash_or_end end ≡ true → All (λ b. eqb b 47 ≡ false) piece
    → Ends (tokens_on legs end) piece (path_on legs end)
ends-on [] [] piece slash lacks = refl
ends-on [] (x ∷ end) piece slash lacks = rw (eqb-true x 47 slash) (slash-ends piece end lacks)
ends-on (l ∷ legs) end piece slash lacks = slash-ends piece (l.front ++ (l.piece ++ path_on legs end)) lacks

-- the names of a route's parameters
abbrev pub names_in : List ℕ → List (ℕ × ℕ) → List (List ℕ)
names_in text places = map (λ (place : ℕ × ℕ). part_of text place.0 place.1) places

-- each parameter takes its piece
module _ (pattern text path : List ℕ) (short : length pattern ≤ 200) where
  pub walk-on : (legs : List Leg) (end : List ℕ) (places : List (ℕ × ℕ)) (token at : ℕ) → slash_or_end end ≡ true → AreLegs legs
      → drop token pattern ≡ tokens_on legs end → drop at path ≡ path_on legs end → names_in text places ≡ names_on legs
      → walk pattern text path places token at ≡ parts_on legs
  walk-on [] end [] token at slash are tokens bytes named = refl
  walk-on [] end (place ∷ places) token at slash are tokens bytes named = cc
  walk-on (l ∷ legs) end [] token at slash are tokens bytes named = cc
  walk-on (l ∷ legs) end (place ∷ places) token at slash are tokens bytes named =
      let front = 47 ∷ l.front in
      let back = tokens_on legs end in
      let rest = path_on legs end in
      let here : drop (token + length front) pattern ≡ 256 ∷ back = past token pattern front (256 ∷ back) tokens in
      let there : drop (at + length front) path ≡ l.piece ++ rest = past at path front (l.piece ++ rest) bytes in
      let size = within (token + length front) pattern (256 ∷ []) back here (omega arith) in
      let room = within (at + length front) path l.piece rest there are.1.some in
      let found : wild_from (drop token pattern) (length path) token at ≡ (token + length front, at + length front) =
      rw tokens (wild-after front back (length path) token at (front-below l.front are.0) (omega (arith, room))) in
      let stop = stop-at pattern path (token + length front) (at + length front) back l.piece rest here there are.1.some
      (ends-on legs end l.piece slash (word-slash l.piece are.1.bytes)) in
      let part = part-at path (at + length front) l.piece rest there are.1.some in
      let next : after_token (token + length front) ≡ token + length front + 1 = omega (arith, size, short) in
      let name : part_of text place.0 place.1 ≡ l.name = cc in
      let names : names_in text places ≡ names_on legs = cc in
      let more = walk-on legs end places (token + length front + 1) (at + length front + length l.piece) slash are.2
      (past (token + length front) pattern (256 ∷ []) back here) (past (at + length front) path l.piece rest there) names in
      rw (found, stop, part, next, name, more) refl
