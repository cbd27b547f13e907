pub mod Looks
pub mod Samples
