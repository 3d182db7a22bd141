pub mod Attributes
pub mod Changes
pub mod Kept
pub mod Laws
pub mod Numbers
pub mod Plain
pub mod Ranges
pub mod World
