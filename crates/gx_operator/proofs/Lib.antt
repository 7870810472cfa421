pub mod Kills_next
pub mod Kills_end
