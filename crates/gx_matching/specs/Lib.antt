pub mod BookInForce
pub mod Changes
pub mod Standing
pub mod Meeting
pub mod Laws
