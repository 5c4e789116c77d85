-- Laws, in the order in which one needs another.
pub mod LevelLaws
pub mod PutInLaws
pub mod StrictLaws
pub mod EqualButLaws
pub mod FrontLaws
pub mod BoundariesLaws
pub mod PutInTwiceLaws
pub mod PutInExampleLaws
pub mod DepthLaws
pub mod OptionLaws
pub mod MergedLaws
pub mod OnceLaws
pub mod ConcatLaws
pub mod OccurrenceLaws
pub mod ReplacedLaws
