pub mod Buckets
pub mod Newcomers
pub mod PullCursors
