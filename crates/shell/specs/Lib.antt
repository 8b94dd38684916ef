-- What is told of a fault, in reading order.
pub mod Nearest
pub mod Lines
pub mod Told
