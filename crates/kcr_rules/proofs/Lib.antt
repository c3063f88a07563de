mod Common
pub mod Own
pub mod Unless
pub mod Plain
pub mod NotFull
pub mod OwnRefusals
pub mod Checked
