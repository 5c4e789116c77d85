pub mod Turn
pub mod TurnLaws
