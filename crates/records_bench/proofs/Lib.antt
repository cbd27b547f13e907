pub mod Rising
pub mod RoomSteps
pub mod NeedSteps
pub mod CarrySteps
