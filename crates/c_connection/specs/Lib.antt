pub mod Offsets
pub mod Layout
pub mod Follows
pub mod FollowsLaws
pub mod LayoutLaws
