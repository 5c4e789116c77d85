pub mod ConnectionOf
