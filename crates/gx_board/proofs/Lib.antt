mod Denied_next
mod Summary_next
mod View_owner
pub mod Summary_call
mod LiveOrders_call
pub mod Record_call
mod Records_repeated
pub mod Replica_next
