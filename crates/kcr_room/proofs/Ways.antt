-- A way is found by its text.
use Rattle.kcr_room.proofs.Common.{◌≡◌, ℕ, List, [], ◌∷◌, Option, arith, IsIn, Way, Enter, Leave, way_text}
use Rattle.std.specs.Bool.{⊤}
use Rattle.kcr_base.specs.Reads.{HasText, ReadsText}
use Rattle.kcr_base.proofs.TextLemmas.{by_text-read}
use Rattle.kcr_room.specs.Forms.{way_of}

in-ways : (v : Way) → IsIn v (Enter ∷ Leave ∷ [])
in-ways v = grind arith

-- a reader that finds exactly the ways by their texts answers what `way_of` gives
pub way_read : (bytes : List ℕ) (r : Option Way) → HasText (λ _. ⊤) way_text bytes r → ReadsText (λ _. ⊤) way_text bytes r → r ≡ way_of bytes
unfolding way_of
way_read bytes r found only = by_text-read (λ _. ⊤) way_text bytes r (Enter ∷ Leave ∷ []) (tt, (tt, tt)) (λ v _. in-ways v) found only
