pub mod Known
pub mod Tables
pub mod Naming
pub mod Reading
pub mod Rows
pub mod Testing
pub mod Asking
pub mod Choosing
