pub mod Brought
pub mod Fields
pub mod Orders
pub mod Eaches
pub mod Rows
pub mod Dumps
pub mod Records
