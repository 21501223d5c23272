-- Laws for the functions of `canvas`.
--     Rows          a row put into its plane as one part of it
--     Places        where the rows of a block stand in its plane
--     Accepted      what gathering's reply 0 says of the planes
--     Into          a macroblock drawn into the planes, by the outcome of the two tests
--     OneAnswer     the public promise admits one answer only
pub mod Rows
pub mod Places
pub mod Accepted
pub mod Into
pub mod OneAnswer
