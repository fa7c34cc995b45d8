pub mod Patterns
pub mod StrictOrder
pub mod Order
pub mod Listing
pub mod Walk
pub mod Marks
pub mod Slices
