pub mod Forms
pub mod Places
pub mod Ties
pub mod Saying
pub mod Stores
pub mod Stays
pub mod Keeping
pub mod Holding
