-- Laws for the functions of `shelf_items`, and for the loops over its items.
--     Turns         what the first k items make of the lists that are written, and what stands at the end
--     Answered      from the test of the lengths to the answer
--     Places        the test of an item's places, and what it says
--     Items         an item as it is drawn, from the parts of the lists that its turn reads
--     Told          the answer of a shelf of bytes
--     OneAnswer     each public promise admits one answer only
pub mod Turns
pub mod Answered
pub mod Places
pub mod Items
pub mod Told
pub mod OneAnswer
