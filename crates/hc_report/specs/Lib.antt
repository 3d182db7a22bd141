pub mod Front
pub mod Named
pub mod Text
pub mod Lines
pub mod Logs
pub mod Summary
