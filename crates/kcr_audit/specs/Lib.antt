pub mod Kinds
pub mod Defects
pub mod Rooms
pub mod Views
