pub mod Laws
pub mod People
