pub mod Stored
pub mod Changing
pub mod Taking
pub mod Entries
pub mod WindowFacts
