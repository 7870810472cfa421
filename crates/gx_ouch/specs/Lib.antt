pub mod Layout
pub mod Messages
pub mod Letters
pub mod Reading
pub mod Writing
pub mod Terms
pub mod Contents
