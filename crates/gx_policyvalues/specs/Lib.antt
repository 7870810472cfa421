pub mod Field
pub mod Tables
pub mod Parsing
pub mod Telling
