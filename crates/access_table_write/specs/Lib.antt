pub mod Write
pub mod FillLaws
pub mod WrittenLaws
