pub mod Factors
pub mod Related
pub mod Complete
pub mod Neville
pub mod Runs
pub mod Upper
pub mod Powers
pub mod Exact
