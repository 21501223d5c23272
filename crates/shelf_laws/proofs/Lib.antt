-- Theorems on a shelf of loose macroblocks.
--     Items         what stands for an item in the lists that are written; shelves of equal items are equal
--     SameItems     bytes that all say something are the jobs that they stand for; one that says nothing refuses its item alone
--     OneByOne      a shelf of bytes is its macroblocks drawn one by one
--     Replies       which reply an item of jobs has, and the zeros beside a refusal
--     Apart         no item reads what belongs to another
pub mod Items
pub mod SameItems
pub mod OneByOne
pub mod Replies
pub mod Apart
