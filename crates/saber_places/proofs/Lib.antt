pub mod Numbering
mod Tallied
mod Counted
