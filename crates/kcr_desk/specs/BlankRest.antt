-- A rest of whole empty lines, as a test.
use Rattle.std.specs.Prelude.{ℕ, Bool, true, false, not, ◌&&◌, List, [], ◌∷◌, ◌==◌, if◌then◌else◌}

-- the bytes are line ends, CR LF or LF, if after_cr says that a CR stands before them
abbrev pub blank_from : Bool → List ℕ → Bool
blank_from after_cr [] = not after_cr
blank_from after_cr (b ∷ bytes) =
    if b == 10 then blank_from false bytes else ((b == 13 && not after_cr) && blank_from true bytes)
