pub mod Unread
pub mod Image
pub mod Packed
pub mod Noted
pub mod Looks
pub mod Asked
pub mod Waits
