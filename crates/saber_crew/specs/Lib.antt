pub mod Supplies
pub mod Dispatches
pub mod Spares
pub mod Runs
pub mod Leaders
