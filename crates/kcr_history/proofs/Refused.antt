-- The texts of refusals, piece by piece.
use Rattle.kcr_history.proofs.Common.{◌≡◌, ℕ, ◌≤◌, List, [], ◌∷◌, ◌++◌, length, codes, false, append_assoc, arith, decimal, number_of, word_of}
use Rattle.kcr_history.proofs.Common.{Refusal, carries, refused_with, refusal_text}
use Rattle.kcr_base.specs.declared.refusal.Refusal.TheVariants as refusal

-- the word of a refusal has at most ten bytes
pub word_short : (r : Refusal) → length (word_of r) ≤ 10
word_short refusal.Head = omega arith
word_short r = omega arith

-- the text of a refusal that carries nothing has its number and its word
bare : (r : Refusal) → carries r ≡ false → refusal_text r ≡ refused_with [] r [] []
bare r h = grind arith

joined : (n w : List ℕ)
    → (((([] ++ codes "{\"number\":") ++ n) ++ codes ",\"refusal\":\"") ++ w) ++ codes "\"}"
    ≡ codes "{" ++ ((codes "\"number\":" ++ n) ++ (44 ∷ (codes "\"refusal\":" ++ (codes "\"" ++ (w ++ codes "\""))))) ++ codes "}"
joined n w = simp append_assoc

-- and this is it, piece by piece
pub bare_text : (r : Refusal) → carries r ≡ false
    → (((([] ++ codes "{\"number\":") ++ decimal (number_of r)) ++ codes ",\"refusal\":\"") ++ word_of r) ++ codes "\"}" ≡ refusal_text r
bare_text r h = rw (bare r h) (joined (decimal (number_of r)) (word_of r))
