mod Commas
pub mod EntryLemmas
pub mod ReplyLemmas
pub mod SeatedLemmas
