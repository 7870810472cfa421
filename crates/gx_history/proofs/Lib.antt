pub mod Lists_slice
pub mod Rows_table
