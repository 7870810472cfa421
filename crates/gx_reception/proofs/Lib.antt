pub mod Login_denied
pub mod Packets_idle
