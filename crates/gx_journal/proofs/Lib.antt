pub mod Journal_next
pub mod Journal_call
