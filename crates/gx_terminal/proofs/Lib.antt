pub mod Words_cut
pub mod Price_read
pub mod Accounts_read
