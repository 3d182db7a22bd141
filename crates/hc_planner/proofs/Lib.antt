mod Walks
mod Stepping
mod Capped
mod Asking
mod Owning
