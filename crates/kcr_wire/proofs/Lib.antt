mod Common
pub mod Tables
pub mod Json
pub mod Lists
pub mod PartLemmas
pub mod ShowLemmas
pub mod Bytes
pub mod Seeking
pub mod Walking
pub mod Paths
pub mod Targets
pub mod Again
pub mod Sent
pub mod BodiesRead
pub mod RequestsAgain
mod ReadCommands
pub mod BodyPieces
mod AfterLemmas
