pub mod Bodies
pub mod Days
pub mod Versions
pub mod Records
pub mod Headers
pub mod Reading
pub mod Audits
pub mod Written
