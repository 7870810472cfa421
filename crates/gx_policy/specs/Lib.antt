pub mod Lists
pub mod RuleNames
pub mod People
pub mod Soundness
pub mod Kinds
pub mod Samples
