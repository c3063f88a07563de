mod Common
pub mod RowLemmas
pub mod WholeLemmas
pub mod StoreLemmas
pub mod OpenLemmas
pub mod ShownLemmas
pub mod QuestionLemmas
pub mod ListingLemmas
pub mod ByRows
pub mod PlannedLemmas
pub mod StopLemmas
