pub mod Dict
pub mod Held
pub mod Changes
