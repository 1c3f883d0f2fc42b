pub mod Lists
pub mod Passed
pub mod Examples
