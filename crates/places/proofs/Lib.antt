-- Laws that belong to no one function.
pub mod Holding
pub mod Verdicts
pub mod Recipes
pub mod Asked
pub mod Checking
pub mod Passing
