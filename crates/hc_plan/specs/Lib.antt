pub mod Chains
pub mod Deps
pub mod Skips
pub mod Laws
