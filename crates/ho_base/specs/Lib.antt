pub mod BitmapCount
pub mod BoundRule
pub mod Bytes
pub mod NameRule
pub mod Objects
pub mod ScratchNeed
pub mod ShapeRule
