pub mod Done
pub mod Finishing
pub mod Incoming
pub mod Replies
pub mod Retrieving
