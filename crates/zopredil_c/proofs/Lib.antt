-- Laws for the exports to C: of each, that its promise, which is that of the function that it calls, admits one answer only.
--     OneAnswer       of all but the distance
--     OneDistance     of the distance
pub mod OneAnswer
pub mod OneDistance
