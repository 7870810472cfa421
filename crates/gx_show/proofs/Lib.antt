pub mod KnownOrders_next
pub mod ChosenRecords_next
pub mod FoundOrders_next
pub mod Audit_walk
