-- Histories of machines, and how they are woven, in reading order.
pub mod Replays
pub mod Entries
pub mod SiteHistory
pub mod Catalogues
pub mod DeskHistory
pub mod Codes
pub mod Called
pub mod Merge
pub mod Picks
pub mod Brought
pub mod Sent
pub mod Told
pub mod Standing
pub mod Weaving
pub mod Woven
pub mod Records
