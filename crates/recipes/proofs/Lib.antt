pub mod Slots
pub mod Coded
