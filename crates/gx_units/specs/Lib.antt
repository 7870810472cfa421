pub mod Names
pub mod Money
pub mod Spelling
