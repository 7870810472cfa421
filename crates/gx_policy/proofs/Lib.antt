pub mod KindLetters_apart
pub mod Name_whole
pub mod Limit_stays
