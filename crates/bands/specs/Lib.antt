pub mod Factored
pub mod Schur
