-- The sum of an edge, an array by its elements, and one answer only for each public function.
pub mod Sums
pub mod OneAnswer
