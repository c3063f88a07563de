pub mod Filling
pub mod Waits
