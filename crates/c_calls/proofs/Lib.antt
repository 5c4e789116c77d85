pub mod StoreSteps
pub mod HostSteps
