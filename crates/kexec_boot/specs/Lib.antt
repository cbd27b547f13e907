pub mod Begins
pub mod Checked
pub mod Files
pub mod Images
pub mod Loaded
pub mod Prepared
pub mod Refused
pub mod Waiting
