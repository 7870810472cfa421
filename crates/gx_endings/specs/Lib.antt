pub mod Endings
pub mod Commands
