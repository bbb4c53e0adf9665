pub mod Shown
pub mod Drafts
pub mod Stores
pub mod LookBack
pub mod Cases
