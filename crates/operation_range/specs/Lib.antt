pub mod Keys
pub mod Range
pub mod RangeLaws
