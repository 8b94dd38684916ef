-- A site's machine over its store, in reading order.
pub mod Fault
pub mod Locks
pub mod LockTable
pub mod Tickets
pub mod Verdict
pub mod Overlay
pub mod PointRead
pub mod State
pub mod Moves
pub mod Recovery
pub mod Seat
pub mod Inquiries
pub mod Youngest
pub mod Settled
pub mod Refusals
pub mod Frame
