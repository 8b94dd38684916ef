pub mod ConversationLemmas
pub mod RunLemmas
pub mod RunRecordsLemmas
pub mod RunTextLemmas
pub mod StoreOpenerLemmas
