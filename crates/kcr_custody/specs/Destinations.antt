-- Where a bag is put, and the text of it.
use Rattle.std.specs.Prelude.{ℕ, List, codes, ⊤, Option, Some, option_map, if◌then◌else◌}
use Rattle.std.specs.Fmt.{decimal}
use Rattle.kcr_base.specs.{Forms.box_of, Same.same_text, Number.IsNumber, declared.limits.TheConstants.MAX_BOX}
use Rattle.kcr_custody.specs.declared.Destination.{Destination, TheVariants.SafeOne, TheVariants.DepositBox}

-- safe 1, or a box with a number that boxes have
abbrev pub IsDestination : Destination → Type 0
IsDestination SafeOne = ⊤
IsDestination (DepositBox number) = IsNumber MAX_BOX number

-- `safe1`, or the number of a box
abbrev pub destination_text : Destination → List ℕ
destination_text SafeOne = codes "safe1"
destination_text (DepositBox number) = decimal number

-- where a bag is put: safe 1, or the box whose number the text is
unfoldable pub destination_of : List ℕ → Option Destination
destination_of text = if same_text text (codes "safe1") then Some SafeOne else option_map DepositBox (box_of text)
