pub mod Arithmetic
pub mod Promise
pub mod Examples
