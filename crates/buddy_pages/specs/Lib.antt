pub mod FreeFrames
pub mod Blocks
