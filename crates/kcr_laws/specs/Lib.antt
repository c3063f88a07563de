pub mod Conditions
pub mod Runs
