-- The definitions that the contracts of `signature_sha1` cite, and what follows of them.
pub mod Sha1
pub mod Sha1Laws
pub mod PaddedBlocks
pub mod PaddedBlockLaws
