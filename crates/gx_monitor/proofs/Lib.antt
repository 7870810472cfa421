pub mod Places_next
pub mod Log_next
