pub mod Shelf
pub mod Tests
pub mod Check
pub mod Outcome
