-- Where a row's part of a plane lies.
pub mod Start
