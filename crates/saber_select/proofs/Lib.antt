mod Lined
mod Shown
mod Texts
pub mod Spotting
pub mod Filled
pub mod Fitting
pub mod Putting
pub mod Finding
pub mod Task
pub mod Keyed
pub mod Answering
pub mod Spread
pub mod Beginning
pub mod Finishing
pub mod Local
