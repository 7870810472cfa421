pub mod Warnings
pub mod Marks
pub mod Moving
pub mod Noting
pub mod Keeping
