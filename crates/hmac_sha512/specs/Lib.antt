pub mod Hmac
pub mod States
pub mod Published
