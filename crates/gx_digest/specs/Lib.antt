pub mod Hashing
pub mod PolicyText
pub mod PoliciesApart
