pub mod Generator
pub mod Rows
pub mod Feeds
pub mod Summary
pub mod Query
pub mod TextSinks
