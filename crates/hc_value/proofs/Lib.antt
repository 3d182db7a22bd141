pub mod Joins
pub mod Words
