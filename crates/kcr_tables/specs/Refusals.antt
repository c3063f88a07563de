-- Which refusals the tables give.
pub use Rattle.kcr_rows.specs.Refusals.{IsFault}
