pub mod Endings
pub mod GoingOn
pub mod Lines
pub mod Permits
pub mod CountedPasses
