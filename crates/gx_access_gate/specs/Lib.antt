pub mod Asking
pub mod Effects
pub mod Gates
pub mod Logins
pub mod Matches
pub mod Steps
pub mod Reports
