pub mod Arithmetic
pub mod Fraction
pub mod Within
pub mod Ring
pub mod SignedFraction
pub mod SignedFractionLaws
pub mod Rational
