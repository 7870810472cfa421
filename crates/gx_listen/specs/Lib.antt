pub mod EndedLines
pub mod Endings
