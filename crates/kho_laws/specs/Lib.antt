pub mod Tree
pub mod Entry
pub mod Sessions
pub mod Owners
pub mod Carrying
pub mod Marks
