pub mod Texts
pub mod Sinks
pub mod Marks
pub mod Firsts
pub mod Seconds
pub mod Chains
pub mod Stops
