pub mod Devices
pub mod Stopping
pub mod Blaming
pub mod Pieces
