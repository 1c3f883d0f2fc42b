pub mod Recipe
pub mod Codes
