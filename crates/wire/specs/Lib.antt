-- Sites in threads, sessions and what they were told, in reading order.
pub mod Fault
pub mod Opening
pub mod Front
pub mod Talk
pub mod Session
