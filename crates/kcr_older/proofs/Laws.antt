-- The law of older files: the stays that a register's sheet tells, in whatever order its rows are, are its stays.
pub use Rattle.kcr_older.proofs.Filling.{stays_follow_from_sheet}
