pub mod Counts
pub mod Cuts
pub mod Kept
pub mod Numbered
pub mod Numbers
pub mod OneByOne
pub mod Said
pub mod Shaped
pub mod Single
pub mod Small
pub mod Taken
mod Finds
mod CleanLines
mod Verbs
