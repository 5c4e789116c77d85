-- The definitions that the contracts of `signature_sha1_compression` cite, and what follows of them.
pub mod Compression
pub mod CompressionLaws
pub mod Ring
pub mod RingLaws
pub mod Rounds
pub mod RoundLaws
