-- Sets of people.
use Rattle.std.specs.Prelude.{ℕ, Bool, ◌==◌}
use Rattle.std.specs.Int.{bit_at}
use Rattle.kcr_seats.specs.declared.people.People.{People}

-- whether the person is in the set
unfoldable pub contains : People → ℕ → Bool
contains set person = bit_at set.mask person == 1

-- the empty set
abbrev pub nobody : People
nobody = record { mask = 0 }
