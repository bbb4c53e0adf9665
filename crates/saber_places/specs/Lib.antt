pub mod Numbering
pub mod Counts
pub mod Counting
