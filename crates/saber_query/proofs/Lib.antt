pub mod LexLemmas
pub mod Flat
pub mod Back
pub mod Forth
pub mod Exact
pub mod ParseLemmas
pub mod WholeLemmas
pub mod QueryLemmas
pub mod RealLemmas
pub mod TextLemmas
pub mod Checks
pub mod LexBack
pub mod Unique
mod Made
pub mod Meanings
pub mod LongestLemmas
