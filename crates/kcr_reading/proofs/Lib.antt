mod AheadLemmas
mod CeremonyLemmas
mod ChoiceLemmas
mod CommandLemmas
mod Common
pub mod CustodyLemmas
mod FirstLemmas
mod NumberLemmas
mod OrderLemmas
mod RemainingLemmas
pub mod StayLemmas
