pub mod Loads
pub mod Chained
pub mod Walks
pub mod Frames
pub mod Invalid
pub mod Made
pub mod Stay
pub mod Marking
