mod Common
pub mod Grown
pub mod Filling
pub mod Update
pub mod Bringing
pub mod NumberText
pub mod NumberLemmas
pub mod NumberHeld
pub mod Laws
