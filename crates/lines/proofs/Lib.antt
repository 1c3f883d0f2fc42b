-- Laws that belong to no one function.
pub mod Words
pub mod Parts
pub mod Numerals
pub mod Pairs
pub mod Text
pub mod ReadBack
pub mod Decimals
