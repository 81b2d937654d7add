pub mod Account
pub mod Answers
pub mod Keeping
pub mod Refusals
pub mod Replaying
pub mod View
