pub mod Lists
pub mod EachRuns
pub mod Rests
