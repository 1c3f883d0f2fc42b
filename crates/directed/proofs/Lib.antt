pub mod Workable
