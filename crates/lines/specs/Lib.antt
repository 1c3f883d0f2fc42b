pub mod Words
pub mod Decimal
pub mod Hexadecimal
pub mod Ascii
pub mod Text
