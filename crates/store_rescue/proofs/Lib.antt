-- Laws, in the order in which one needs another.
pub mod StateLaws
pub mod KeysLaws
pub mod ListedLaws
pub mod SurveyLaws
pub mod KeptLaws
pub mod PlacesLaws
pub mod RescueLaws
