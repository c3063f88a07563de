mod Common
pub mod Listed
pub mod Marks
pub mod Steps
pub mod Words
pub mod Piled
pub mod Stacked
pub mod Orderly
pub mod Trained
pub mod Settled
pub mod Distinct
pub mod Tops
pub mod Refused
pub mod Laws
