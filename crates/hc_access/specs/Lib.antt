pub mod Spots
pub mod Entries
pub mod Notes
pub mod Accesses
pub mod Ways
pub mod Laws
