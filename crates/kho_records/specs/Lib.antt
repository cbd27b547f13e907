pub mod Chunks
pub mod Fronts
pub mod Owned
pub mod Owner
pub mod Survey
pub mod Users
