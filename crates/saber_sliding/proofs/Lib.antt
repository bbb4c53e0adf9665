pub mod Closed
pub mod Entered
pub mod Joining
pub mod Settled
pub mod Stacked
pub mod Suited
pub mod Waited
