pub mod StatusData
pub mod InForce
pub mod View
pub mod Laws
