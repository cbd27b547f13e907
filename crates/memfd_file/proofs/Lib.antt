pub mod FileSteps
pub mod Overwriting
pub mod Told
