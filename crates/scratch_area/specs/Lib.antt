pub mod BlobPages
pub mod EarlyFrames
pub mod HandoffRule
