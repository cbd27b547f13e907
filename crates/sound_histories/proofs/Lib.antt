pub mod Chains
pub mod Works
pub mod Kexecs
pub mod BlocksKept
pub mod Bindings
pub mod ReadOnce
pub mod Standing
