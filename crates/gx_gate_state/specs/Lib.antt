pub mod Ends
pub mod State
pub mod Ledgers
pub mod Matching
pub mod Settings
