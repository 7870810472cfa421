pub mod Words
pub mod Fields
pub mod Lines
pub mod Logs
