pub mod Trails
pub mod Readings
pub mod First
pub mod Entries
pub mod Keeps
pub mod Kept
