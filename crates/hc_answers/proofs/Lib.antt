pub mod Few
pub mod Safe
