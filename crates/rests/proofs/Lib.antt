pub mod Odd
pub mod Parts
pub mod Dyadic
pub mod Whole
pub mod Sums
pub mod Products
pub mod Balance
pub mod Examples
