-- Laws that belong to no one function.
pub mod RowByRow
pub mod Made
pub mod Table
pub mod Square
pub mod Ranges
