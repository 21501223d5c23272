-- When a macroblock lies in its plane.
pub mod Place
