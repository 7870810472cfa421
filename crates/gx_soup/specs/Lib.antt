pub mod Standard
pub mod Login
pub mod Packets
pub mod Fronts
pub mod Feeding
pub mod Writing
