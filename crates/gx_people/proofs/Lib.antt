pub mod Persons_table
pub mod Names_apart
pub mod Users_stay
pub mod Grants_next
pub mod Users_laws
pub mod Users_sound
