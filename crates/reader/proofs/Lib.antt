-- Laws that belong to no one function.
pub mod Before
pub mod Continued
pub mod Examples
pub mod Faults
pub mod OneFactor
pub mod Pattern
pub mod Reading
pub mod RoundTrip
pub mod Sixteen
