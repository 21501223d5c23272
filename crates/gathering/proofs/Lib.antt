-- The laws of gathering.
--     Copied        the copies of the edges find all their pixels
--     Pixels        an edge outside the picture is absent; any other is the pixels beside the macroblock, or the border
--     Gathers       all of it, of every answer that the promise of `gather` admits
--     Unread        where the given pixels change nothing
--     OneAnswer     the promise admits one answer only
pub mod Copied
pub mod Pixels
pub mod Gathers
pub mod Unread
pub mod OneAnswer
