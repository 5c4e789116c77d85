pub mod Runs
pub mod RunLaws
pub mod BoundLaws
pub mod Seen
pub mod SeenLaws
