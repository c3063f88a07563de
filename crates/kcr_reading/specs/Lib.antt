pub mod Commands
pub mod FirstRows
pub mod Frame
pub mod Remaining
