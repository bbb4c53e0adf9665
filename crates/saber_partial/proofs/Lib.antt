mod FlatRows
mod RowPairs
mod Layouts
pub mod Folded
pub mod Lone
pub mod Sourced
pub mod Headed
pub mod RowNumbers
pub mod Merging
pub mod Rising
pub mod Weaving
pub mod Adding
pub mod Fitting
pub mod Shown
pub mod Listed
pub mod Lined
pub mod Counted
mod PileFacts
mod RowParted
mod Picked
pub mod OneParts
mod OneRows
mod Makings
