pub mod Bias
pub mod Correlation
pub mod Variance
pub mod Waiver
pub mod Words
