pub mod Moments
pub mod Shown
pub mod Laws
