-- Laws that belong to no one function.
pub mod Below
pub mod Filled
pub mod Fronts
pub mod Runs
pub mod Structs
