pub mod Feedback
pub mod Jobs
pub mod Lending
pub mod Batches
pub mod Ends
pub mod Calls
pub mod Laws
