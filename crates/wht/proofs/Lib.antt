-- Laws for the functions of `wht`.
--     Passes        a turn of a pass, how large its results are, and that two passes, rounded, are the transform
--     OneAnswer     each public promise admits one answer only
pub mod Passes
pub mod OneAnswer
