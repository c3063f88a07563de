pub mod Causes
mod Common
pub mod Notes
pub mod Told
pub mod Audits
pub mod Verifications
pub mod Empty
pub mod Copies
pub mod Served
pub mod Rows
