pub mod Known
pub mod Place
pub mod Version
pub mod Users
pub mod Rules
pub mod Policies
pub mod Reads
pub mod Migrating
