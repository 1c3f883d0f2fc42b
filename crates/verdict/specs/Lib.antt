pub mod Verdict
pub mod Report
