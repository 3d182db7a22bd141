pub mod Having
pub mod Begun
pub mod Filled
pub mod Given
