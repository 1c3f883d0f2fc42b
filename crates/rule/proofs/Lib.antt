pub mod Asked
pub mod Sets
pub mod Quotients
pub mod StepBounds
pub mod Cells
