pub mod Names_visible
pub mod Text_plain
pub mod AnswerLines_plain
pub mod OrderLines_plain
