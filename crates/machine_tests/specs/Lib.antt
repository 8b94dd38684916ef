-- What the tests ask of what they are given.
pub mod Planned
