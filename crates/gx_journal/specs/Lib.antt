pub mod Journals
pub mod Progresses
