pub mod Words_cut
mod Name_next
pub mod SixteenBytes_masks
pub mod Reports_next
pub mod Words_read
pub mod Digits_table
pub mod TimedLines_words
