pub mod Fronts
mod Spaced
mod Tallies
pub mod Trues
