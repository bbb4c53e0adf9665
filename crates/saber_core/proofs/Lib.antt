pub mod Phases
pub mod Sounds
pub mod Orders
pub mod Stops
pub mod Fits
mod Worked
