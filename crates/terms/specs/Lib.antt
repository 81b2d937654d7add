pub mod Heads
pub mod Levels
pub mod Limits
pub mod Pairs
pub mod Readings
pub mod Texts
