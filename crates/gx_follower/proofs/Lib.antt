pub mod Version_next
pub mod Audit_first
pub mod Audit_next
pub mod Reading_next
pub mod Reading_stands
