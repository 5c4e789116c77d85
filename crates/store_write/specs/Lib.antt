pub mod MoveLaws
pub mod Change
pub mod ChangeLaws
