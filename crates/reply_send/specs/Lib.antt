pub mod Sent
pub mod SentLaws
pub mod Answers
