pub mod Commands
pub mod Accounts
pub mod Rules
pub mod Executed
pub mod Owning
