pub mod PlayLemmas
pub mod CatalogWordLemmas
pub mod SessionLemmas
pub mod ScriptFileLemmas
pub mod ImportLemmas
pub mod ImportCounts
pub mod ImportTalks
pub mod ImportFileLemmas
