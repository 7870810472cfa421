pub mod Packets_next
pub mod Feeder_call
pub mod Number_read
pub mod Packet_read
pub mod Rest_bounds
pub mod Packets_laws
