pub mod Binding
pub mod Blocks
pub mod Kept
pub mod Scripts
pub mod Worlds
