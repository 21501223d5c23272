-- One answer only, of each public function.
pub mod OneAnswer
