-- The laws of the modes' numbers and of the refusals', and one answer only for each public function.
pub mod ModeNumbers
pub mod Refusals
mod Says
pub mod Within
pub mod OneAnswer
