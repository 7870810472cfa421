pub mod Keys_only
