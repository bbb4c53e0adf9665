pub mod Machine
pub mod Sound
pub mod Fields
pub mod Runs
pub mod Works
