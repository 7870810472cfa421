pub mod State_first
pub mod State_next
pub mod Command_next
pub mod EndedOrders_call
pub mod Ledger_next
pub mod Reserved_next
pub mod Match_next
pub mod Readers_next
pub mod Room_bounds
mod Traders_bounds
pub mod AccountNames_only
