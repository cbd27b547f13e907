pub mod Carried
pub mod Frames
pub mod Laws
pub mod States
pub mod Survey
