pub mod Answering
pub mod Asking
pub mod Hearing
pub mod Kills
