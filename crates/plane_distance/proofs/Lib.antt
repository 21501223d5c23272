-- The laws of two planes' distance.
--     Totals      sums and the largest: a turn, bounds, rules that agree, in two parts, lane by lane
--     Pixels      two pixels: equal where they are not apart, at most 255 apart
--     Lanes       a stretch: what a turn of 64 pixels makes of the lanes, and what the lanes are together
--     Parts       two parts of a plane are the whole, and what the test of the lengths says
--     OneAnswer   each public promise admits one answer only
pub mod Totals
pub mod Pixels
pub mod Lanes
pub mod Parts
pub mod OneAnswer
