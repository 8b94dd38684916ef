-- The meaning and what follows from it.
pub mod Meaning
pub mod Laws
-- What the meaning speaks of, in reading order.
pub mod Relation
pub mod Whole
pub mod Selected
pub mod Updated
pub mod Matched
pub mod Listed
-- What fits a schema.
pub mod Schema
pub mod Statement
