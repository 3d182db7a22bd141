pub mod Cases
pub mod Listed
pub mod Meaning
pub mod Fast
pub mod Slots
pub mod Entries
pub mod Anew
