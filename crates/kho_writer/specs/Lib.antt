pub mod Bounds
pub mod Entry
pub mod Folios
pub mod Layout
pub mod Marking
pub mod Written
