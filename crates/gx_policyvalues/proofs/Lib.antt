pub mod Keys_view
pub mod Tree_parsed
