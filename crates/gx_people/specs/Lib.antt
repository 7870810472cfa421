pub mod Entitled
pub mod View
pub mod Laws
