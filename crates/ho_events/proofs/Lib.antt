pub mod ByNames
pub mod PlainTurns
pub mod Runs
pub mod Ties
pub mod Written
