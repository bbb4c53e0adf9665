pub mod Widths
pub mod Fitting
pub mod Columns
