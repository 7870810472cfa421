pub mod Amounts
pub mod Laws
