pub mod Names
pub mod Messages
pub mod Reading
pub mod Writing
pub mod Contents
