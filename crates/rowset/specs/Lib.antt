pub mod Mask
pub mod Sets
pub mod Blocks
