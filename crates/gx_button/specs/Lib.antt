pub mod Permission
pub mod Tokens
pub mod Steps
