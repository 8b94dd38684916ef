-- What a database answers, in reading order: a world and its letters, what is shown of it, one client, how it is opened, a script.
pub mod PlayText
pub mod Schedule
pub mod Delivering
pub mod Shown
pub mod WorldOpener
pub mod Client
pub mod ListClient
pub mod Serves
pub mod CatalogFiles
pub mod Opened
pub mod Origin
pub mod SqlStores
pub mod Solo
pub mod Ending
