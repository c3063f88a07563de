-- What a text means to the database, by one reading of it.
use Rattle.std.specs.Prelude.{◌≡◌, [], None, Ok, Err}
use Rattle.sqlite.specs.Command.{Command}
use Rattle.sqlite_resolve.specs.{declared.compiled.Compiled.Compiled, Lowering.Checked}

-- it is this command, has no RETURNING, and does not read the time
abbrev pub Means : Command → Checked Compiled → Type 0
Means command (Ok c) = (c.command ≡ command) × (c.returning ≡ None) × (c.formats ≡ [])
Means command (Err e) = ⊥
