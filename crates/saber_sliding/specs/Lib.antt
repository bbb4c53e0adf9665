pub mod Entries
pub mod EntryFacts
pub mod Stacks
pub mod Forms
pub mod Waits
pub mod Windows
