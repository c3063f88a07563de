pub mod Answer
pub mod Count
pub mod Hall
pub mod People
pub mod Seating
pub mod Search
pub mod Matrix
pub mod Placement
