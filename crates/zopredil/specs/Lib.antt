-- What each function of the C interface answers, beside what it leaves in the slices that it writes.
--     Transforms      factors, dequantising, the transforms, the residue sum
--     Predictions     the predictors
--     Macroblocks     one macroblock; a shelf of them is `bytes_answer` of `shelf`
--     Neighbours      a macroblock's neighbours in a picture
--     Stills          a whole still
--     Told            what an answer tells, beside zeros where it is refused
pub mod Transforms
pub mod Predictions
pub mod Macroblocks
pub mod Neighbours
pub mod Stills
pub mod Told
