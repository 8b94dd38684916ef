-- What the tables hold, in reading order.
pub mod Tables
pub mod Schemas
pub mod Cells
pub mod Content
pub mod Sound
pub mod Keyed
pub mod Intents
-- What statements make of rows.
pub mod Tests
pub mod Rows
pub mod Step
pub mod Query
pub mod Numbered
-- What the coordinator's tables hold, and what statements make of them.
pub mod DeskTables
pub mod Decided
pub mod DeskSound
pub mod DeskStep
pub mod Votes
pub mod DeskQuery
pub mod DeskFresh
pub mod Desk
-- What a store is to its callers.
pub mod Blame
pub mod Listed
pub mod Gathered
pub mod Walk
pub mod DeskRows
pub mod Fresh
pub mod Site
pub mod Frame
