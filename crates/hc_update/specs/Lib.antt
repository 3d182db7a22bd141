pub mod Renewing
pub mod Updating
pub mod Retargeting
