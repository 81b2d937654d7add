pub mod Biased
pub mod Correlated
pub mod Words
