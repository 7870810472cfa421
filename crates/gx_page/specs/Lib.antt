pub mod Replies
pub mod Notices
pub mod Responses
pub mod Answers
pub mod Visits
