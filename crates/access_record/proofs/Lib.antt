-- Laws, in the order in which one needs another.
pub mod OffsetLaws
pub mod TableLaws
pub mod LookupLaws
pub mod MaskLaws
pub mod ReadbackLaws
