-- How rows are shown, in reading order.
pub mod Separated
pub mod Csv
pub mod Json
pub mod Columns
pub mod Mode
