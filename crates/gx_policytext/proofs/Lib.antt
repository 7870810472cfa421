pub mod Values_depth
