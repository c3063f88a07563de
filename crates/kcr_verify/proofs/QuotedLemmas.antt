-- One more byte of a text in quotes, and one more value of a row.
use Rattle.kcr_verify.proofs.Common.{◌≡◌, ◌⊎◌, inl, inr, ℕ, suc, ◌+◌, ◌<◌, ◌≤◌, List, [], ◌∷◌, ◌++◌, take, length, get_or, refl, sym, ap, add-one}
use Rattle.kcr_verify.proofs.Common.{arith, join_with_byte, take_more, Row, Value, Kind, cell_text, cell_texts, date_behind, doubled, row_text}
use Rattle.kcr_verify.proofs.Common.{value_text}
use Rattle.std.proofs.{Common.append_assoc, lemmas.List.Concat.flat_map-append}

-- one more byte of a text adds its own doubled text
pub doubled_more : (text : List ℕ) (i : ℕ) → i < length text → doubled (take (i + 1) text) ≡ doubled (take i text) ++ doubled (get_or text i 0 ∷ [])
doubled_more text i h = rw (take_more text i 0 h) (flat_map-append _ (take i text) (get_or text i 0 ∷ []))

-- a single quote is doubled
pub quote_doubled : (byte : ℕ) → byte ≡ 39 → doubled (byte ∷ []) ≡ byte ∷ 39 ∷ []
quote_doubled byte e = rw e refl

-- any other byte is kept
pub other_kept : (byte : ℕ) → ¬ (byte ≡ 39) → doubled (byte ∷ []) ≡ byte ∷ []
other_kept byte e = grind arith

joined_end : (y : List ℕ) (ys : List (List ℕ)) (x : List ℕ) → join_with_byte 44 (y ∷ ys ++ x ∷ []) ≡ (join_with_byte 44 (y ∷ ys) ++ 44 ∷ []) ++ x
joined_end y [] x = sym (append_assoc y (44 ∷ []) x)
joined_end y (z ∷ ys) x = rw (joined_end z ys x) (simp append_assoc)

-- one more value in the columns
texts_more : (ks : List Kind) (row : Row) (d : Kind) (v : Value) → length row < length ks
    → cell_texts (take (suc (length row)) ks) (row ++ v ∷ []) ≡ cell_texts (take (length row) ks) row ++ cell_text (get_or ks (length row) d) v ∷ []
texts_more [] row d v h = absurd (omega arith)
texts_more (k ∷ ks) [] d v h = refl
texts_more (k ∷ ks) (w ∷ row) d v h = ap (λ (t : List (List ℕ)). cell_text k w ∷ t) (texts_more ks row d v (omega arith))

-- before the value with this index, each later one behind a comma
abbrev pub IsStarted : ℕ → List ℕ → List ℕ → Type 0
IsStarted i line started = ((0 < i) × (started ≡ line ++ 44 ∷ [])) ⊎ ((i ≤ 0) × (started ≡ line))

row_more : (ks : List Kind) (row : Row) (d : Kind) (v : Value) (started : List ℕ) → length row < length ks
    → IsStarted (length row) (row_text (take (length row) ks) row) started
    → row_text (take (suc (length row)) ks) (row ++ v ∷ []) ≡ started ++ cell_text (get_or ks (length row) d) v
row_more [] row d v started h s = absurd (omega arith)
row_more (k ∷ ks) [] d v started h (inl s) = absurd (omega (arith, s.0))
row_more (k ∷ ks) [] d v started h (inr s) = rw s.1 refl
row_more (k ∷ ks) (w ∷ row) d v started h (inl s) =
    rw (s.1, texts_more ks row d v (omega arith)) (joined_end (cell_text k w) (cell_texts (take (length row) ks) row) _)
row_more (k ∷ ks) (w ∷ row) d v started h (inr s) = absurd (omega (arith, s.0))

-- a line after one more value, whose text and whose date were added
pub line_more : (ks : List Kind) (row next : Row) (i : ℕ) (d : Kind) (v told : Value) {line started between now : List ℕ} → i < length ks → i ≡ length row
    → next ≡ row ++ v ∷ [] → ((k : Kind) → cell_text k told ≡ cell_text k v) → line ≡ row_text (take i ks) row → IsStarted i line started
    → between ≡ started ++ value_text told → now ≡ between ++ date_behind (get_or ks i d) told → now ≡ row_text (take (i + 1) ks) next
line_more ks row next i d v told {started = started} low long is same was begun first then =
    rw (add-one, long, is)
    (cc (
      row_more ks row d v started (omega (arith, low, long)) (rw (was, long) at begun),
      same (get_or ks i d),
      append_assoc started (value_text told) (date_behind (get_or ks i d) told),
    ))
