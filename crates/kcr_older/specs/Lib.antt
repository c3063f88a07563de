pub mod OldFiles
pub mod Kind
pub mod Plain
pub mod Versions
pub mod NewTable
pub mod Backfilled
pub mod Migrated
