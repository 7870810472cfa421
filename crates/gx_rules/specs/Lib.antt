pub mod Books
pub mod Laws
pub mod Places
pub mod Settings
