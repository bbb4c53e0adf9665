pub mod Printing
pub mod Texts
pub mod Found
pub mod Spots
pub mod Words
pub mod Open
pub mod Sights
