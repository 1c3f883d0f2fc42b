-- Laws that belong to no one function.
pub mod Lent
pub mod Replies
pub mod Short
