pub mod Asked
pub mod OneMeaning
pub mod Passing
pub mod PlainLine
pub mod Taking
pub mod Turns
pub mod Generated
pub mod Asking
