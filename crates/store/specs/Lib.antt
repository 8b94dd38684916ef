-- What stores keep, in reading order.
pub mod Name
pub mod Slot
pub mod Content
pub mod Change
pub mod Reply
pub mod LetterText
pub mod Fault
pub mod Frame
pub mod SiteContent
pub mod PlainSite
pub mod DeskContent
pub mod PlainDesk
pub mod Laws
-- Laws of contents, and of the orders that they stand on.
pub mod Orders
pub mod ContentLaws
-- The lists' own words, which a reader may skip.
pub mod Entries
pub mod Shelves
pub mod RowList
