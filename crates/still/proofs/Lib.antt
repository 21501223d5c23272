-- Laws for the functions of `still`.
--     Parts         the parts of the slices that a macroblock takes
--     Sizes         a picture's size, and the lengths that go with it
--     Turned        a turn of the drawing, and a drawing that has ended
--     OneAnswer     each public promise admits one answer only
pub mod Parts
pub mod Sizes
pub mod Turned
pub mod OneAnswer
