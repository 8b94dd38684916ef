-- What a text is one of.
pub mod Command
pub mod Conds
pub mod Laws
-- Its tokens, its grammar and its names, in reading order.
pub mod Tokens
pub mod Symbol
pub mod Keyword
pub mod Sign
pub mod Class
pub mod Grammar
pub mod Tree
pub mod Names
pub mod Scope
-- What is printed.
pub mod PrintStatement
pub mod Written
pub mod Columns
pub mod Printable
pub mod PrintAnswer
pub mod Fault
pub mod Refusal
pub mod Breaks
-- The reader's own words, which one may skip.
pub mod Reading
pub mod Alone
pub mod Parsing
pub mod Resolving
