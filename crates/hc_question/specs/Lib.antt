pub mod Ask
pub mod Question
pub mod Told
pub mod Laws
