pub mod Sentences
pub mod Lines
pub mod Replies
pub mod Journal
