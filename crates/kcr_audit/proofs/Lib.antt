mod Common
pub mod Found
pub mod Crowds
pub mod Seen
pub mod Alike
pub mod Passing
pub mod Placed
pub mod Fitting
pub mod Filed
