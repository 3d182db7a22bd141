pub mod Bits
pub mod Capacity
pub mod Layout
pub mod Place
pub mod Shape
pub mod Words
