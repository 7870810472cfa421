pub mod Orders_computed
pub mod Commands_computed
pub mod Rules_computed
pub mod Matches_computed
pub mod Reports_computed
