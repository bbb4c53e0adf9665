mod Slicing
pub mod LookingBack
