pub mod Maps
pub mod Events
pub mod State
pub mod Laws
