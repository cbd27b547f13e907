pub mod Adding
mod Rising
mod Fronts
mod FrontTests
mod Elements
mod ChunkLoop
mod Flags
mod Found
mod Marks
mod Rule
mod Tables
mod Limits
mod KeptSteps
mod RunLists
mod Shown
mod Held
