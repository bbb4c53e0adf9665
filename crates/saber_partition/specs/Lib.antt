pub mod Streams
pub mod Lists
pub mod Pieces
pub mod Stores
