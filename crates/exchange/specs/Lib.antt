-- What fields, records and rows are, in reading order.
pub mod Field
pub mod Each
pub mod Order
pub mod Row
pub mod Insert
pub mod Dump
pub mod Incoming
pub mod LineFault
pub mod Suggestion
pub mod File
