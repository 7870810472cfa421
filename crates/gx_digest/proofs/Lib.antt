pub mod Digest_next
pub mod Policies_apart
