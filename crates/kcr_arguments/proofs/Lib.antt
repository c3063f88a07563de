pub mod Parses
pub mod Numbers
pub mod Options
pub mod Taken
mod Examples
pub mod Folds
