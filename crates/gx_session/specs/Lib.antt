pub mod Happenings
pub mod Table
pub mod Events
pub mod Outboxes
pub mod Sending
