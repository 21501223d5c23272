-- What the functions of `residue` answer, and what they leave.
pub mod Answer
