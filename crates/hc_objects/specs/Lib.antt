pub mod Came
pub mod Changes
pub mod State
pub mod Following
pub mod Planned
pub mod Onward
pub mod Laws
