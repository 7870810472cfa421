pub mod Activity
pub mod Noting
pub mod Positions
pub mod Positioning
pub mod Denials
pub mod Denying
pub mod Spans
pub mod Spanning
