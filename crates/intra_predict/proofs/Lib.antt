-- One answer only for each public function.
pub mod OneAnswer
