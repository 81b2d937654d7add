pub mod Accuracy
pub mod Confidence
pub mod Rational
pub mod Words
