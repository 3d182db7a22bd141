pub mod Within
pub mod Cuts
pub mod Renewed
pub mod Raised
pub mod Alone
pub mod Rooted
