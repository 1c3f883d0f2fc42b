-- Laws that belong to no one function.
pub mod Lines
pub mod Going
pub mod Answers
pub mod Pieces
pub mod Input
pub mod Moves
