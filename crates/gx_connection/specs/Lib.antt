pub mod Faults
pub mod Steps
pub mod Transcript
pub mod Piping
pub mod Serving
pub mod Fronts
