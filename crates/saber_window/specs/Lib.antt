pub mod Kinds
pub mod Frames
pub mod Points
pub mod Laws
pub mod Together
pub mod Stretches
pub mod Timed
pub mod Tasks
