pub mod RowDecision
pub mod Whole
pub mod NewDecision
