pub mod Filling
pub mod Leading
pub mod Ends
