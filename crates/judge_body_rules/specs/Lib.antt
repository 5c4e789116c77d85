pub mod BodyParts
pub mod LengthsGood
pub mod BodyRuleLaws
pub mod PassedLaws
