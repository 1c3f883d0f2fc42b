pub mod Presence
pub mod Held
pub mod Full
