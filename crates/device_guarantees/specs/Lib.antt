pub mod HostCall
