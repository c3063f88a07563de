-- What making a new register leaves of the files that it is made in.
use Rattle.std.specs.Prelude.{◌≡◌, []}
use Rattle.sqlite.specs.{Effect.Database, Held.Held, Held.state, Recovery.Image, Start.FindsIn, Store.Ghosts, Tree.Trees}
use Rattle.sqlite.specs.State.{HasCleanDisk, IsLive, Opens, Survives}
use Rattle.kcr_older.specs.Kind.{no_schema}
use Rattle.kcr_store.specs.Stored.{IsTables}

-- what a crash may leave of an empty database that a new register is made in: the tables of an empty register
abbrev pub IsNewOf : Database → Trees → Type 0
IsNewOf before db = (before.schema ≡ no_schema) × IsTables [] db

-- a new connection to files that held these bytes
abbrev pub IsOpenedOn : {S : Type 0} → Ghosts S → Image → Held S → Type 0
IsOpenedOn g image c = HasCleanDisk (state g c) → (Opens (state g c) × IsLive (state g c)) × FindsIn image (state g c)

-- the files held an empty database, and a crash leaves that or the tables of an empty register
pub record IsMadeOn {S : Type 0} (g : Ghosts S) (image : Image) (c : Held S) : Type 0 where
  pub was : Held S
  pub opened : IsOpenedOn g image was
  pub empty : (state g was).now.schema ≡ no_schema
  pub survives : Survives (state g was) (state g c) (IsNewOf (state g was).now)
