-- Laws that belong to no one function.
pub mod Checked
pub mod Numbers
pub mod Answered
pub mod Ahead
pub mod Stepped
pub mod Carried
pub mod Logged
pub mod Sentences
pub mod Chains
