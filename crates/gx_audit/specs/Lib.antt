pub mod Auditing
pub mod Replaying
pub mod Telling
pub mod Resuming
pub mod Beginning
pub mod Endings
