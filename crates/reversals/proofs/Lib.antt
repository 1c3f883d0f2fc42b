pub mod Counting
pub mod Signs
pub mod Rounded
pub mod Steady
pub mod Pairs
