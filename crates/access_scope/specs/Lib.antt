pub mod ScopeLaws
