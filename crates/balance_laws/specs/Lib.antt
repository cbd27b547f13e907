pub mod Acted
pub mod Carrying
pub mod Keeps
pub mod OneEach
pub mod Parts
pub mod Sound
