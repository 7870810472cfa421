pub mod Side_order
pub mod Side_keys
pub mod Stocks_table
pub mod Book_first
pub mod Change_seen
pub mod AccountOrders_out
