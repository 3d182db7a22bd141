pub mod Image
pub mod Looks
pub mod Holds
pub mod Trails
pub mod Verdicts
