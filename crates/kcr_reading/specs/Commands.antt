-- What of the accepted commands is still to come, by the tables of the machine.
use Rattle.std.specs.Prelude.{ℕ, zero, suc, ◌+◌, ◌-◌, ◌==◌, List, [], ◌∷◌, filter, Option, Some, None}
use Rattle.std.specs.Option.{option_map_or}
use Rattle.kcr_history.specs.Tables as machine
use Rattle.kcr_history.specs.declared.row_types.KeyRow.{KeyRow}

-- the one of these, if there is one alone
abbrev pub only : {X : Type 0} → List X → Option X
only (x ∷ []) = Some x
only xs = None

-- the row of the accepted command with this number
abbrev pub numbered : ℕ → machine.Tables → Option KeyRow
numbered number m = only (filter (λ row. row.accepted == number) m.keys)

-- the accepted commands after this number, at most N of them, up to the first number that no command has
unfoldable pub commands_past : ℕ → ℕ → machine.Tables → List KeyRow
commands_past zero last m = []
commands_past (suc count) last m =
    option_map_or (λ row. row ∷ commands_past count (last + 1) m) (numbered (last + 1) m) []

-- those past this number, up to another
abbrev pub commands_within : ℕ → ℕ → machine.Tables → List KeyRow
commands_within last until m = commands_past (until - last) last m
