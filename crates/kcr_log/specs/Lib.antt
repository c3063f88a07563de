pub mod Frames
pub mod Pages
pub mod Damage
pub mod Stop
pub mod Written
pub mod BegunAnew
