-- Laws, in the order in which one needs another.
pub mod ExampleLaws
pub mod BasicLaws
pub mod DepthLaws
pub mod BackLaws
pub mod CostLaws
pub mod FitsLaws
pub mod LookUpLaws
pub mod FitsTestLaws
pub mod SampleLaws
pub mod CanonicalLaws
