-- What proves the contracts of the crate.
pub mod Floor
pub mod Successors
pub mod OneColumn
pub mod Rows
pub mod SortedTests
pub mod SearchLaws
pub mod LeastRow
pub mod Doubled
pub mod StoredTexts
pub mod StoredValues
pub mod Spelled
