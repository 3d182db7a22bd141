pub mod Chained
pub mod Keys
pub mod Linked
pub mod Loads
pub mod Walk
pub mod Turns
pub mod Later
