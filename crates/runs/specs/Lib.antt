-- What sessions at once come to, in reading order: their texts, one conversation, all of them, the whole.
pub mod RunText
pub mod Conversation
pub mod Conversations
pub mod Run
