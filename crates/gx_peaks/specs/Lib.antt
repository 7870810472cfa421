pub mod Figures
pub mod Peaks
pub mod Raising
pub mod Keys
pub mod Touching
pub mod Noting
pub mod Laws
pub mod Same
