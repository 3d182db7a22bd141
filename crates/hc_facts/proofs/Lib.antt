pub mod Facts
pub mod Constants
