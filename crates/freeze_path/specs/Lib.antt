pub mod Freezes
pub mod Ready
