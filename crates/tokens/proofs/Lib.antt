pub mod Trees
pub mod Slots
pub mod Positions
pub mod Blocks
pub mod Told
pub mod OneAnswer
