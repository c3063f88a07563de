mod Common
mod CsvLemmas
mod JournalLemmas
mod LineLemmas
mod PartLemmas
mod ReportLemmas
mod RequestLemmas
mod RowLemmas
mod SeatLemmas
pub mod WrittenLemmas
