pub mod Known
pub mod Events
pub mod Words
pub mod Fields
pub mod Lines
pub mod Laws
pub mod Sample
