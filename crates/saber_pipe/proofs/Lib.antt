pub mod Marks
pub mod Moves
pub mod Relays
pub mod Sendings
