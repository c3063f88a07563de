pub mod Days
pub mod Orders
pub mod Withdrawn
pub mod Keys
pub mod Laws
