pub mod Matrix
pub mod Determinant
