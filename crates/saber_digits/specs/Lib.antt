pub mod Cells
pub mod CellFacts
