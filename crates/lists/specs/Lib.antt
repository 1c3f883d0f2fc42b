pub mod Lists
pub mod Promise
pub mod Carrying
pub mod Examples
