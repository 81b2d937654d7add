pub mod Answers
pub mod Layers
pub mod Meaning
pub mod Piles
pub mod Plain
