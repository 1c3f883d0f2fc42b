pub mod Matrix
pub mod Faults
pub mod Before
