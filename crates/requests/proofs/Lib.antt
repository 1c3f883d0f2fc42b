-- Laws that belong to no one function.
pub mod Words
pub mod Forms
pub mod Listed
pub mod Triples
pub mod Spelled
pub mod Numbers
pub mod Tails
pub mod Examples
