pub mod Sample
pub mod OrderRows
pub mod CommandRows
pub mod RuleRows
pub mod MatchingRows
pub mod ReportRows
