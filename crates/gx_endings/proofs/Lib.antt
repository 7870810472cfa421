pub mod LiveOrders_bounds
pub mod Endings_next
