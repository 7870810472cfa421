pub mod Acts
pub mod Callers
pub mod Endings
pub mod Matching
pub mod Keeping
