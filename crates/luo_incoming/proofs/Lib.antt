pub mod Replies
pub mod Slots
pub mod Files
pub mod Opens
pub mod Retrieves
pub mod Finishes
pub mod Others
