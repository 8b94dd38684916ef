-- What proves the contracts of the crate, by topic.
pub mod Ascending
pub mod Handed
pub mod Leaves
pub mod Reading
pub mod Sent
pub mod SiteCells
