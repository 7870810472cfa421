pub mod Counting
pub mod Summaries
pub mod Sight
pub mod Accounts
pub mod Views
pub mod Laws
pub mod Replicas
