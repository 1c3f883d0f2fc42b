-- Laws that belong to no one function.
pub mod Reports
pub mod Turns
pub mod Lists
pub mod Places
pub mod Lengths
