pub mod Trail
pub mod Fits
pub mod Parts
pub mod States
pub mod Rule
pub mod Steps
pub mod Looked
pub mod Laws
