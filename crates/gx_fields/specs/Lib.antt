pub mod Cells
pub mod Laws
pub mod Reasons
pub mod Rows
