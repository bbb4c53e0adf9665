pub mod Keyed
pub mod Lined
pub mod Filled
pub mod Linking
pub mod Sides
pub mod Adding
pub mod Changing
pub mod Meeting
pub mod Spread
mod Tying
mod Partners
pub mod Holding
pub mod Task
pub mod Answering
pub mod Parting
pub mod Beginning
pub mod Finishing
pub mod Passing
