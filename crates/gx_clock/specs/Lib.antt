pub mod Moments
pub mod Offsets
pub mod Times
