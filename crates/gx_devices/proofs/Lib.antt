pub mod Parts_written
pub mod Run_stopped
pub mod Run_pieces
