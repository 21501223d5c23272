pub mod BoolCoder
pub mod Held
pub mod Inside
pub mod State
pub mod Rfc
