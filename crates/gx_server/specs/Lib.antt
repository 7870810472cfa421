pub mod Policies
pub mod Opening
pub mod Telling
