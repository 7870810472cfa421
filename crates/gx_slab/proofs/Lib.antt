pub mod Order_found
pub mod Rows_walk
pub mod Waiting_first
pub mod Order_put
pub mod Order_written
pub mod EndedOrders_swept
