pub mod Status_table
pub mod Status_next
pub mod Status_answers
