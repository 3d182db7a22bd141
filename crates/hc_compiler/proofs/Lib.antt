pub mod Numbered
pub mod Reading
pub mod Batching
pub mod Starting
pub mod Ending
pub mod Stepping
pub mod Handing
