-- Laws for the functions of `shelf`.
--     Told          the answers of the two calls
--     OneAnswer     each public promise admits one answer only
pub mod Told
pub mod OneAnswer
