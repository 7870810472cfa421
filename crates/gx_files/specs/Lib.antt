pub mod Identity
pub mod Reading
pub mod Watching
