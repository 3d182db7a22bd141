pub mod Changed
pub mod Places
pub mod Walks
pub mod Writes
