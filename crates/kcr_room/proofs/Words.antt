-- What most proofs speak of: rows and stays, and the texts and numbers in them.
pub use Rattle.std.proofs.lemmas.Bool.Decides.{nat_tests}
pub use Rattle.kcr_base.specs.Same.{same_text, is_before}
pub use Rattle.kcr_room.specs.declared.{Way.Way, Way.TheVariants.Enter, Way.TheVariants.Leave, SheetRow.SheetRow, Stay.Stay}
