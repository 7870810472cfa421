pub mod State
pub mod Watching
