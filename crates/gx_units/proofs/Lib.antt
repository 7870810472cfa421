pub mod Test_known
pub mod Trimmed_next
pub mod Text_folded
mod Names_compared
pub mod Names_equal
pub mod Results_hold
pub mod Lists_found
pub mod Lists_hold
