pub mod Row_read
