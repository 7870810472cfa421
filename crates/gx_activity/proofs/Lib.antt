pub mod Counts_next
pub mod AccountRow_next
pub mod Known_next
pub mod Counts_bounds
pub mod Table_next
pub mod Positions_next
pub mod Denials_next
pub mod Spans_next
