pub mod FormLemmas
pub mod Cutting
pub mod Dates
pub mod Formed
pub mod Gives
pub mod Listing
pub mod Readers
pub mod Posts
