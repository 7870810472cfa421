pub mod Listings
pub mod Rows
pub mod States
pub mod Metrics
pub mod Viewers
