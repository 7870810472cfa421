pub mod Admissions
pub mod Arrivals
pub mod Denials
pub mod Openings
