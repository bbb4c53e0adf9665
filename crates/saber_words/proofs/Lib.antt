mod Cases
mod ManyCases
pub mod Apps
pub mod Numerals
pub mod Sizes
pub mod Values
pub mod Parses
pub mod FileNames
pub mod Levels
pub mod OtherWords
pub mod DemoWords
pub mod ChainWords
pub mod ManySizes
pub mod ManyWords
