-- Tables, answers and writes, in reading order.
pub mod FetchRows
pub mod Laid
pub mod Table
pub mod Merged
pub mod Joined
pub mod Writes
pub mod Moves
-- The words of the code's own steps, which a reader may skip.
pub mod Ledger
pub mod Evaluated
pub mod Outcome
pub mod Moved
