-- The definitions that the contracts of `planes` cite beside those of `rfc6386`.
pub mod Steps
pub mod Planes
