mod Bounds
mod Cases
