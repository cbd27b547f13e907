pub mod IncomingSlots
pub mod OpenedSlots
pub mod SessionAdds
pub mod Sessions
pub mod TakenFiles
pub mod Tokens
