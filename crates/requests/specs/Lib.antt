pub mod Words
pub mod Commands
pub mod Lists
pub mod Items
pub mod Steps
pub mod Wholes
pub mod Requests
