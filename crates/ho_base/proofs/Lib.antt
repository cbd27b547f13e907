pub mod Spelled
pub mod Padded
