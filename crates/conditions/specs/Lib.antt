pub mod Conditions
pub mod Examples
