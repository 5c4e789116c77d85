pub mod KeysLaws
