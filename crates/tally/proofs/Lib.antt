pub mod Numbers
pub mod Shared
pub mod Sound
pub mod Spread
pub mod Squares
