pub mod Fraction
pub mod Within
pub mod Distance
pub mod Rational
pub mod Ring
pub mod Ordered
pub mod Solver
pub mod Identities
