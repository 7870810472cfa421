pub mod LiveOrders
pub mod Tables
pub mod InForce
pub mod Changes
pub mod Laws
pub mod Seeds
