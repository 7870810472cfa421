pub mod Pieces_next
