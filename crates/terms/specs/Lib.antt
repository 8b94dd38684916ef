-- Values, rows and conditions on them, in reading order.
pub mod Text
pub mod Value
pub mod Order
pub mod Row
pub mod Cond
pub mod TestValues
pub mod Leaf
pub mod Print
pub mod PartFault
pub mod Stored
-- The search's own words, which a reader may skip.
pub mod Search
