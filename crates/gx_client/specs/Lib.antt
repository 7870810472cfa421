pub mod Letters
pub mod Messages
pub mod Reading
pub mod Reports
pub mod ServerPackets
pub mod ServerFeeding
pub mod Session
pub mod Sending
