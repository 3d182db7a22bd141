pub mod Buffer
pub mod Fetch
pub mod Lines
pub mod Memory
pub mod MemoryView
pub mod Outside
