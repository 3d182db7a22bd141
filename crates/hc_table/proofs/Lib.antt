pub mod Chains
pub mod Edits
pub mod Mapping
pub mod Objects
pub mod Properties
pub mod Worlds
