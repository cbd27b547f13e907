pub mod SessionShown
pub mod SessionValues
pub mod Sessions
pub mod Taking
