pub mod Tests
pub mod FileTests
pub mod Taken
pub mod Ready
