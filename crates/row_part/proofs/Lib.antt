-- The laws of a row's part.
--     Given         when a row's part is given, and what it then holds
--     OneAnswer     the promise admits one answer only
pub mod Given
pub mod OneAnswer
