pub mod Machine
pub mod Steps
pub mod Left
pub mod Jobs
pub mod Rooms
