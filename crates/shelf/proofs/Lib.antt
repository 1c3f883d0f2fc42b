-- Laws that belong to no one function.
pub mod Loading
pub mod Before
pub mod Dropping
pub mod Writing
pub mod Carrying
pub mod FactorReads
pub mod Sequences
pub mod Returns
pub mod RoundTrip
pub mod Examples
