pub mod Lists_prefix
pub mod Lines_owner
pub mod Rule_kept
pub mod Table_word
pub mod HighestLine_next
