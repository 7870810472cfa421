pub mod Offset_read
pub mod Clock_moments
