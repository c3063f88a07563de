pub mod Audits
pub mod Verifications
pub mod Runs
pub mod Places
