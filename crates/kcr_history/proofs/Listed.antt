-- Texts with commas between them, one text after the other; the texts of replies and refusals, piece by piece.
use denote.Shadow.{shadow}
use denote.Text.{Utf8}
use Rattle.kcr_history.proofs.Common.{◌≡◌, ℕ, zero, suc, ◌+◌, ◌<◌, List, [], ◌∷◌, ◌++◌, map, take, length, get_or, codes, refl, sym, ap, ◌∙◌}
use Rattle.kcr_history.proofs.Common.{append_assoc, append-nil, add-one, arith, Result, Ok, Err, IfOk, decimal, join_with_byte, flat_map, map_more}
use Rattle.kcr_history.proofs.Common.{get_or_default, Refusal, quoted, member, object, refusal_text}
use Rattle.std.proofs.lemmas.List.Concat.{flat_map-append}

-- what stands between a list and the next text: a comma if the list is not empty
abbrev pub separator : {X : Type 0} → List X → List ℕ
separator [] = []
separator (x ∷ xs) = 44 ∷ []

joined-append : (xs : List (List ℕ)) (x : List ℕ) → join_with_byte 44 (xs ++ x ∷ []) ≡ join_with_byte 44 xs ++ separator xs ++ x
joined-append [] x = refl
joined-append (y ∷ []) x = sym (append_assoc y (44 ∷ []) x)
joined-append (y ∷ z ∷ ys) x = rw (joined-append (z ∷ ys) x) (simp append_assoc)

separator-map : {X : Type 0} (f : X → List ℕ) (xs : List X) → separator (map f xs) ≡ separator xs
separator-map f [] = refl
separator-map f (x ∷ xs) = refl

-- a list with its next element has a comma behind it
pub separator_more : {X : Type 0} (xs : List X) (i : ℕ) → i < length xs → separator (take (i + 1) xs) ≡ 44 ∷ []
separator_more [] i h = absurd (omega arith)
separator_more (x ∷ xs) i h = rw add-one

-- the text of the next element stands behind those before it, and a comma if there are any
joined_map_more : {X : Type 0} (f : X → List ℕ) (xs : List X) (i : ℕ) (x : X) → i < length xs → x ≡ get_or xs i x
    → join_with_byte 44 (map f (take (i + 1) xs)) ≡ join_with_byte 44 (map f (take i xs)) ++ separator (take i xs) ++ f x
joined_map_more f xs i x h e = rw (map_more f xs i x h, ← e, ← separator-map f (take i xs)) (joined-append (map f (take i xs)) (f x))

-- the same if the texts of several are those of each
pub listed_more : {X : Type 0} (f : X → List ℕ) (texts : List X → List (List ℕ)) → ((all : List X) → texts all ≡ map f all)
    → (xs : List X) (i : ℕ) (x : X) → i < length xs → x ≡ get_or xs i x
    → join_with_byte 44 (texts (take (i + 1) xs)) ≡ join_with_byte 44 (texts (take i xs)) ++ separator (take i xs) ++ f x
listed_more f texts each xs i x h e = rw (each (take (i + 1) xs), each (take i xs)) (joined_map_more f xs i x h e)

-- a loop over a list so far: its text, and what stands before the next element
pub record IsJoined {X : Type 0} (told said before : List ℕ) (xs : List X) : Type 0 where
  pub text : told ≡ said
  pub comma : before ≡ separator xs
  pub utf8 : shadow (Utf8 before)

-- the text of a result
pub ok_text : {E : Type 0} {T : Type 0} (result : Result T E) (bytes : T → List ℕ) (a b : List ℕ) → a ≡ b
    → IfOk result (λ text. bytes text ≡ a) → IfOk result (λ text. bytes text ≡ b)
ok_text (Ok text) bytes a b e h = h ∙ e
ok_text (Err error) bytes a b e h = h

-- REPLIES

-- the next person stands in quotes behind those before, and a comma if there are any
pub quoted_more : (people : List (List ℕ)) (i : ℕ) (who : List ℕ) → i < length people → who ≡ get_or people i who
    → (codes "[" ++ join_with_byte 44 (map quoted (take i people))) ++ separator (take i people) ++ codes "\"" ++ who ++ codes "\""
    ≡ codes "[" ++ join_with_byte 44 (map quoted (take (i + 1) people))
quoted_more people i who h e = rw (joined_map_more quoted people i who h e) (simp append_assoc)

-- a text with its comma
abbrev pub behind_comma : List ℕ → List ℕ
behind_comma text = codes "," ++ text

-- of texts with commas between them each but the first has a comma before it
joined-cons : (x : List ℕ) (xs : List (List ℕ)) → join_with_byte 44 (x ∷ xs) ≡ x ++ flat_map behind_comma xs
joined-cons x [] = sym (append-nil x)
joined-cons x (y ∷ xs) = ap (λ rest. x ++ (44 ∷ rest)) (joined-cons y xs)

regroup : (front n e s t back : List ℕ) → front ++ n ++ e ++ s ++ t ++ back ≡ front ++ (n ++ (e ++ (s ++ t)) ++ back)
regroup front n e s t back = simp append_assoc

-- an object is its first member, then the others with their commas
pub answer : (n : List ℕ) (e s t : List (List ℕ))
    → codes "{\"accepted\":" ++ n ++ flat_map behind_comma e ++ flat_map behind_comma s ++ flat_map behind_comma t ++ codes "}"
    ≡ object (member (codes "accepted") n ∷ (e ++ (s ++ t)))
answer n e s t =
    rw (joined-cons (member (codes "accepted") n) (e ++ (s ++ t)), flat_map-append behind_comma e (s ++ t), flat_map-append behind_comma s t)
    (regroup (codes "{\"accepted\":") n (flat_map behind_comma e) (flat_map behind_comma s) (flat_map behind_comma t) (codes "}"))

-- REFUSALS

-- a refusal's text is told of the kind of refusal that it is
pub carried : {E : Type 0} (result : Result (List ℕ) E) {refusal which : Refusal} {text : List ℕ} → refusal ≡ which → text ≡ refusal_text which
    → IfOk result (λ told. told ≡ text) → IfOk result (λ told. told ≡ refusal_text refusal)
carried result {refusal} {which} {text} is e h = ok_text result (λ told. told) text (refusal_text refusal) (e ∙ sym (ap refusal_text is)) h

-- the first position stands alone
pub first_position : (xs : List ℕ) (i : ℕ) → i ≡ 0 → i < length xs
    → join_with_byte 44 (map decimal (take (i + 1) xs)) ≡ join_with_byte 44 (map decimal (take i xs)) ++ decimal (get_or xs i 0)
first_position [] i e h = absurd (omega arith)
first_position (x ∷ xs) zero e h = refl
first_position (x ∷ xs) (suc i) e h = absurd (omega arith)

-- each later one stands behind a comma
pub next_position : (xs : List ℕ) (i : ℕ) → 0 < i → i < length xs
    → join_with_byte 44 (map decimal (take (i + 1) xs)) ≡ (join_with_byte 44 (map decimal (take i xs)) ++ 44 ∷ []) ++ decimal (get_or xs i 0)
next_position xs zero p h = absurd (omega arith)
next_position xs (suc i) p h =
    joined_map_more decimal xs (suc i) (get_or xs (suc i) 0) h (get_or_default xs (suc i) 0 _ h)
    ∙ ap (λ comma. (join_with_byte 44 (map decimal (take (suc i) xs)) ++ comma) ++ decimal (get_or xs (suc i) 0))
    (rw add-one at (separator_more xs i (omega arith)))
