pub mod FileShown
pub mod FileValues
pub mod Files
