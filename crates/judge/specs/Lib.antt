pub mod Causes
pub mod Judging
pub mod Law
pub mod Numbers
pub mod Search
pub mod Sets
pub mod Shortlists
