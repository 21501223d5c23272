-- Laws for the functions of `slices`.
--     Copied        a copying loop, and what a copy leaves where the lengths agree or differ
--     Parts         a part of a slice, read and written
--     Laid          three planes put into their parts of one slice
--     OneAnswer     each public promise admits one answer only
pub mod Copied
pub mod Parts
pub mod Laid
pub mod OneAnswer
