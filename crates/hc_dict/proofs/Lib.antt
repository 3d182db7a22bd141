pub mod Names
pub mod Restricting
pub mod Row
