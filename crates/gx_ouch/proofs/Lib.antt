pub mod Fields_placed
pub mod Requests_read
