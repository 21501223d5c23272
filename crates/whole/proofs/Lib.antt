-- ONE library of laws on ℤ, for every crate above.
--     Parts, Linear     linear arithmetic through `omega`
--     Order             the ring and the order
--     Floor             division rounded down
--     Range             from -B to B, and a signed width's own range
--     Modulo            modulo 2^32 and 2^16, read as signed
--     Clamp             held within 0 and m
--     Held, Chain       what a local of 32 or 16 bits gives back, and a chain of signed operations followed step by step
pub mod Parts
pub mod Linear
pub mod Order
pub mod Floor
pub mod Range
pub mod Modulo
pub mod Clamp
pub mod Held
pub mod Chain
pub mod OneAnswer
