-- Lemmas about the definitions beside this folder, which any proof may cite. No contract rests on them.
pub mod Lists
pub mod Lines
pub mod Rows
pub mod Maps
pub mod Parts
pub mod Trees
pub mod Numbers
pub mod Counts
pub mod Kept
