pub mod Offsets
pub mod Table
pub mod Record
pub mod Places
pub mod Mask
pub mod Roomy
