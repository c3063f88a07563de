pub mod Seat
pub mod Seats
pub mod Script
pub mod Reading
pub mod Fault
pub mod CsvFault
pub mod Steps
pub mod Examples
