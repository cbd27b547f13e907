pub mod FileAnswers
pub mod FileFoliosValues
pub mod FileParts
pub mod HeldFiles
pub mod Sized
pub mod Slots
