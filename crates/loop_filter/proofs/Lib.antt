-- Laws of the filter.
--     Seats        every macroblock of a picture that is ready lies in its planes
--     LowLevels       what the test of the levels says
--     Accepted     what it says that nothing is refused
--     OneAnswer    one answer only
--     Both         two directions, one after the other, are a macroblock
pub mod Seats
pub mod LowLevels
pub mod Accepted
pub mod Both
pub mod OneAnswer
