-- The laws of a list of stills.
--     Sizes       what the tests of the sizes and lengths say; how many pixels a still and a list have at most
--     Reports     the reports of the first stills, and their sums
--     Planes      a still is the distance of its two parts of the planes
--     Bounds      how far the numbers grow
--     Answers     the answer of the whole call, by its three ways out
--     Exchange    exchanging drawn and measured changes nothing
--     OneAnswer   the public promise admits one answer only
--     Measured    what the call tells of its stills: the theorems
pub mod Sizes
pub mod Reports
pub mod Planes
pub mod Bounds
pub mod Answers
pub mod Exchange
pub mod OneAnswer
pub mod Measured
