pub mod Requested
pub mod Demand
pub mod Before
pub mod Examples
