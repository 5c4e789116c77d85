-- The definitions that the contracts of `signature_hmac` cite, and what follows of them.
pub mod Hmac
pub mod HmacLaws
pub mod KeyBlockLaws
