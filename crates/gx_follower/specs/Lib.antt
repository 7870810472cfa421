pub mod Followers
pub mod Readings
