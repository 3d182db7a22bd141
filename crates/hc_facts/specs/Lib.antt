pub mod Honest
pub mod Constants
pub mod Laws
