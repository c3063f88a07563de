mod Common
pub mod SeatLemmas
pub mod WrittenLemmas
pub mod StepLemmas
pub mod OnLiterals
pub mod SeatReading
pub mod RowLemmas
pub mod ScriptReading
pub mod Laws
pub mod Examples
