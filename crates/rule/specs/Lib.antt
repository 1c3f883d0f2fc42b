pub mod Chosen
pub mod Latest
pub mod Result
pub mod Run
pub mod Single
