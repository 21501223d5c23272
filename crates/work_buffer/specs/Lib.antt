-- Steps of laying the border that RFC 6386 does not name.
pub mod Steps
