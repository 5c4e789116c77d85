pub mod SetUp
pub mod SetupLaws
pub mod VersionFound
pub mod VersionLaws
pub mod PutCode
pub mod PutLaws
pub mod DeleteCode
pub mod DeleteLaws
