pub mod OnLiterals
pub mod Played
pub mod Reached
pub mod Commands
pub mod Registers
pub mod Shown
