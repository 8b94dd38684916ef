-- What the commands do, in reading order: a schedule, rows that are brought in, a session, and what a request comes to.
pub mod Play
pub mod Import
pub mod ImportFile
pub mod ImportWord
pub mod Leaves
pub mod Stats
pub mod Session
pub mod CatalogWord
pub mod Dump
pub mod SuggestFile
pub mod ScriptFile
pub mod Perform
