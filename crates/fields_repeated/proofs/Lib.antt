pub mod Seeking
pub mod Nexts
