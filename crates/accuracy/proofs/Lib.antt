pub mod Accurate
pub mod Squares
pub mod Within
pub mod Words
