pub mod Rest
pub mod Balance
pub mod Examples
