pub mod Fits
pub mod Room
