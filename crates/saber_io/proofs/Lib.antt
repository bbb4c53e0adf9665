pub mod Seams
pub mod Finds
pub mod Contents
pub mod Coming
