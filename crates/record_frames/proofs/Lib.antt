mod Needs
mod Fronts
mod Slots
mod Apart
mod Chains
mod InTurn
mod Records
mod Once
mod Found
mod FoundSlots
mod FoundChains
mod FoundTurns
mod FoundRecords
mod FoundKept
pub mod SeenFlags
pub mod SlotLemmas
pub mod ListFronts
pub mod ChainSteps
pub mod ListLoop
pub mod Items
pub mod OneSheet
pub mod FrontTests
pub mod WrittenBytes
pub mod WrittenPages
pub mod WrittenSheets
pub mod WrittenFiles
pub mod WrittenLists
pub mod WrittenSessions
pub mod WrittenInTurn
pub mod WrittenRecords
pub mod WrittenRead
pub mod EachItem
pub mod FileSheet
pub mod FileTests
pub mod RecordSteps
pub mod TreeSteps
pub mod AreaSteps
pub mod EntrySteps
pub mod BoundSteps
