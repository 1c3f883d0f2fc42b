pub mod Stamps
pub mod Examples
