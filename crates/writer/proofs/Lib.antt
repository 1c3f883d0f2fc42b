-- Laws that belong to no one function.
pub mod Length
pub mod Writing
