pub mod Fresh
pub mod Seated
pub mod Verification
pub mod FirstRow
pub mod Quoted
pub mod Invalid
