-- Laws for the functions of `quantiser`.
--     Read          an entry of a table and a dequantised coefficient, as the machine reads them
--     Sum           a sum of two indices, tested against signed 32 bits
--     OneAnswer     each public promise admits one answer only
pub mod Read
pub mod Sum
pub mod OneAnswer
