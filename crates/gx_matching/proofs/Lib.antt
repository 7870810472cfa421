pub mod Book_sides
pub mod Book_turn
pub mod Book_next
pub mod Resting_order
pub mod Orders_meet
pub mod Books_sound
pub mod Book_live
