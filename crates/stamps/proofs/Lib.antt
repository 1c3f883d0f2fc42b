-- Laws that belong to no one function.
pub mod Timed
pub mod Rounded
pub mod Examples
