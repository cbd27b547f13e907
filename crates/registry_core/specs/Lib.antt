pub mod NameSlots
pub mod Outgoing
pub mod Registries
pub mod RegistryShown
pub mod RegistryValues
pub mod UsedNumbers
