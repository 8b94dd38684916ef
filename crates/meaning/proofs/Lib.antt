-- What proves the contracts of the crate.
pub mod Changed
pub mod Kept
pub mod Keys
pub mod LawProofs
pub mod JoinLaws
pub mod ListedLemmas
pub mod Maps
pub mod Places
pub mod Rows
