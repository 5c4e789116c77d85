-- Laws, in the order in which one needs another.
pub mod CalledLaws
