pub mod Products
pub mod Sums
pub mod Truths
pub mod FittingLaws
