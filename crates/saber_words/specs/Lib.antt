pub mod Commands
pub mod Numbers
pub mod Flags
pub mod Demo
pub mod Chain
pub mod Table
pub mod Many
