-- Laws that belong to no one function.
pub mod Reading
pub mod RoundTrip
pub mod Writing
