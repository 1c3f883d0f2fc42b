pub mod Accepted
pub mod Outcomes
pub mod Examples
