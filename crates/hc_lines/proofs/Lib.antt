pub mod Breaks
pub mod Content
pub mod FirstLine
pub mod Lines
pub mod Newline
pub mod Skipping
