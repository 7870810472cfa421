pub mod Showing
pub mod AnswerLines
pub mod LimitLines
pub mod OrderLines
pub mod NameLaws
pub mod LineLaws
