-- Theorems about what the two walkers return.
--     Laid       the work buffer as a walk finds it, edge by edge
--     Border     its border shows the given borders
--     Shown      before sub-block k it shows them, and the finished pixels of the sub-blocks before k
--     Rule       so each sub-block is predicted by the rule of mode B; chroma by its rule; demand 3 over it
--     Agree      two macroblocks that meet the rule agree in every closed set in which their coefficients do; the rule has one answer only
--     Later      nothing later touches anything earlier: two calls of a walker
pub mod Laid
pub mod Border
pub mod Shown
pub mod Rule
pub mod Agree
pub mod Later
