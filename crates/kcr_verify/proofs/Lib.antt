mod Common
pub mod StandLemmas
pub mod OrderLemmas
pub mod NumberLemmas
pub mod SeatingLemmas
pub mod SeatedLemmas
pub mod StepLemmas
pub mod ReplayLemmas
pub mod VerifyLemmas
pub mod FreshLemmas
pub mod QuotedLemmas
pub mod KeyLemmas
pub mod FirstRowLemmas
