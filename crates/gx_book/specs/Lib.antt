pub mod Resting
pub mod Queue
pub mod Books
pub mod Changes
pub mod Account
pub mod Keys
pub mod Table
pub mod Laws
