-- Laws that belong to no one function.
pub mod Asked
pub mod Only
pub mod Room
pub mod Saying
pub mod Examples
