-- Laws, in the order in which one needs another.
pub mod MessageTypeLaws
pub mod HeaderLaws
pub mod RestLaws
