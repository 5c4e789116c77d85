-- Laws, in the order in which one needs another.
pub mod StoreLaws
pub mod SizeLaws
pub mod EntriesLaws
pub mod LookupLaws
pub mod FilteredLaws
pub mod NeighbourLaws
pub mod WalkLaws
pub mod CheckLaws
pub mod KeptLaws
