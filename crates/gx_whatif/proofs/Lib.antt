pub mod Waiting_next
pub mod OtherDay_next
pub mod Watcher_next
pub mod OwnPolicy_same
pub mod Counts_next
pub mod Days_computed
