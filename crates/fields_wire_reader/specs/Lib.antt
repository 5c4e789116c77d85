pub mod FieldAnswer
