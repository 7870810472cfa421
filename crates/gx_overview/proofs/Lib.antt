pub mod Pass_next
pub mod Accounts_next
pub mod LiveOrders_call
pub mod Owners_next
pub mod Fills_call
pub mod Commands_call
pub mod Rows_next
