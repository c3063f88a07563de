-- What looks at the files of a register have found.
use Rattle.std.specs.Prelude.{◌≡◌, ◌∷◌, Bool, false, not, List, Option, None, Some, IfSome}

-- one more look, which found this
abbrev pub HasLooked : Option (List Bool) → Option (List Bool) → Bool → Type 0
HasLooked old new found = IfSome old (λ looks. new ≡ Some (found ∷ looks))

-- the files of a register were looked at once, and were lost or not; a register in memory has none to lose
abbrev pub LooksOnce : {L : Type 0} → (L → Option (List Bool)) → Option L → Option L → Bool → Type 0
LooksOnce looks None new is_lost = is_lost ≡ false
LooksOnce looks (Some old) None is_lost = ⊥
LooksOnce looks (Some old) (Some new) is_lost = HasLooked (looks old) (looks new) (not is_lost)
