pub mod Steps
pub mod Letters
pub mod Lent
pub mod Single
pub mod Held
pub mod Packed
