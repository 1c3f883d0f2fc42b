pub mod Reasons
pub mod Sentence
pub mod Promise
pub mod Examples
