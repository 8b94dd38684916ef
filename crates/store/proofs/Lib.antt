-- What proves the contracts of the crate.
pub mod Rooms
pub mod Views
pub mod Keyed
pub mod Scans
pub mod RowLists
pub mod Changing
pub mod ByKey
pub mod Near
pub mod Shelving
pub mod Flat
pub mod Copied
pub mod Packed
