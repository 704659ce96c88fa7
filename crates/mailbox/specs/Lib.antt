pub mod Cells
pub mod CellLists
pub mod CellFacts
