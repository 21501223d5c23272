-- The definitions that the contracts of `sub_blocks` cite beside those of `rfc6386`.
--     Steps     the steps of the walk
--     Parts     the luma with its count
pub mod Steps
pub mod Parts
