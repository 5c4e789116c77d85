-- Laws, in the order in which one needs another.
pub mod ListLaws
pub mod OnlyLaws
pub mod BitsLaws
