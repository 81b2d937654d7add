pub mod Closed
pub mod Sets
