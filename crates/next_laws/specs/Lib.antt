pub mod Begins
pub mod Follows
pub mod Scratch
