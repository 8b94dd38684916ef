-- What a plan means, in reading order: what a statement needs, the read of a leaf, which leaves are stated.
pub mod Need
pub mod Fetch
pub mod Stated
pub mod Picked
pub mod Shape
pub mod Postfix
pub mod Rows
pub mod Found
pub mod Reduced
pub mod Given
pub mod Contents
pub mod Uniform
pub mod PlanOf
pub mod Located
