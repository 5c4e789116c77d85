-- Laws, in the order in which one needs another.
pub mod CasesLaws
pub mod AnsweredLaws
pub mod UnchangedLaws
pub mod GoodLaws
pub mod StoredLaws
pub mod ReplayLaws
pub mod UnknownIdentityLaws
