pub mod Reader_next
pub mod Session_call
pub mod Writer_next
