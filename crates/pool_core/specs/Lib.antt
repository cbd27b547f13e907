pub mod PoolTags
pub mod PoolFramesValues
pub mod PoolLending
pub mod PoolAdopting
pub mod PoolValues
