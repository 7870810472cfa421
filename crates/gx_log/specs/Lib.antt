pub mod Queues
pub mod Events
