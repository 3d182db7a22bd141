pub mod Installed
pub mod Answers
pub mod Discards
pub mod Settles
pub mod Laws
