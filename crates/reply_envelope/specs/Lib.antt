pub mod Frames
pub mod FramesLaws
