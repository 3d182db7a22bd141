pub mod Admits
pub mod Answers
