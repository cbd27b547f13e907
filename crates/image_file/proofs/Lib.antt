pub mod BothWays
pub mod Faults
pub mod Fronts
pub mod Headers
pub mod Loading
pub mod Pages
pub mod Wrote
