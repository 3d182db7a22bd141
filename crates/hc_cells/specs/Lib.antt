pub mod Chains
pub mod Cells
pub mod Watched
pub mod Laws
