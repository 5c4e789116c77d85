pub mod Moves
pub mod Brought
pub mod BroughtLaws
pub mod Arranging
pub mod ArrangingLaws
