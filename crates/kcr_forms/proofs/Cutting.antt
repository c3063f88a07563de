-- A text is cut at its first such byte in one way.
use Rattle.std.proofs.Common.{◌≡◌, ℕ, ◌+◌, ◌<◌, false, eqb, List, ◌∷◌, ◌++◌, length, take, drop, Some}
use Rattle.std.proofs.Common.{None, refl, ap, subst, ◌∙◌, arith, All, length-append}
use Rattle.std.specs.{List.position, List.position_or_len, Option.option_map}
use Rattle.std.proofs.Math.{Seq.drop-append-add, Seq.take-append_seam, Seq.get_or-append_seam, ListN.get_or-append}
use Rattle.std.proofs.lemmas.Bool.{eq-eqb, ne_eqb, lt-ltb, le-ltb}
use Rattle.std.proofs.lemmas.List.{Elements.All-get_or, Elements.All-weaker, Sums.position_or_len_is}
use Rattle.kcr_forms.specs.Split.{split_at_byte}

-- the byte is not in the text
abbrev pub Lacks : ℕ → List ℕ → Type 0
Lacks byte text = All (λ b. eqb b byte ≡ false) text

-- bytes of a kind that this byte is not of
pub lacks-by : (P : ℕ → Type 0) (byte : ℕ) → (P byte → ⊥) → (text : List ℕ) → All P text → Lacks byte text
lacks-by P byte never text each = All-weaker P (λ b. eqb b byte ≡ false) (λ b h. ne_eqb b byte (λ e. never (subst P e h))) text each

-- where the byte first stands
first-place : (byte : ℕ) (x y : List ℕ) → Lacks byte x → position_or_len (λ b. eqb b byte) (x ++ byte ∷ y) ≡ length x
first-place byte x y lacks =
    position_or_len_is (λ b. eqb b byte) (x ++ byte ∷ y) (length x) 0 (omega (arith, length-append x (byte ∷ y)))
    (λ k h. rw (get_or-append x (byte ∷ y) 0 k h) (All-get_or (λ b. eqb b byte ≡ false) x k 0 h lacks))
    (λ h. rw (get_or-append_seam x byte y 0) (eq-eqb byte byte refl))

-- a text is cut at the first such byte
pub cut-again : (byte : ℕ) (x y : List ℕ) → Lacks byte x → split_at_byte byte (x ++ byte ∷ y) ≡ Some (x, y)
unfolding split_at_byte
cut-again byte x y lacks =
    let within : length x < length (x ++ byte ∷ y) = omega (arith, length-append x (byte ∷ y)) in
    let at : position (λ b. eqb b byte) (x ++ byte ∷ y) ≡ Some (length x) =
    rw (first-place byte x y lacks, lt-ltb (length x) (length (x ++ byte ∷ y)) within) refl in
    ap (option_map (λ i. (take i (x ++ byte ∷ y), drop (i + 1) (x ++ byte ∷ y)))) at
    ∙ (λ j. Some (take-append_seam x (byte ∷ y) j, drop-append-add x (byte ∷ y) 1 j))

-- the byte is not found in a text that lacks it
pub nowhere : (byte : ℕ) (text : List ℕ) → Lacks byte text → position (λ b. eqb b byte) text ≡ None
nowhere byte text lacks =
    let past : position_or_len (λ b. eqb b byte) text ≡ length text =
    position_or_len_is (λ b. eqb b byte) text (length text) 0 (omega arith) (λ k h. All-get_or (λ b. eqb b byte ≡ false) text k 0 h lacks)
    (λ h. absurd (omega (arith, h))) in
    rw (past, le-ltb (length text) (length text) (omega arith)) refl
