pub mod Written
pub mod Lines
pub mod ByRows
pub mod Journal
pub mod Reports
pub mod Requests
