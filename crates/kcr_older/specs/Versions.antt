-- The number of a version before this one.
use Rattle.std.specs.Prelude.{ℕ}
use Rattle.kcr_older.specs.declared.migration.OldVersion.{OldVersion, TheVariants.V1, TheVariants.V2}

abbrev pub number_of : OldVersion → ℕ
number_of V1 = 1
number_of V2 = 2
