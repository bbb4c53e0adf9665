pub mod ReportLemmas
pub mod ToldLemmas
mod WorkedNotes
