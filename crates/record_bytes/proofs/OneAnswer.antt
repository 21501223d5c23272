-- Each promise of `record_bytes` admits one answer only. Assumes nothing.
use Rattle.lists.proofs.Answer.{OneAnswer, same}
use Rattle.record_bytes.proofs.marks_known.Reads as marks-known
use Rattle.record_bytes.proofs.marks_known.Kinds as marks-known-k
use Rattle.record_bytes.proofs.neighbors_of.Reads as neighbors-of
use Rattle.record_bytes.proofs.neighbors_of.Kinds as neighbors-of-k
use Rattle.record_bytes.proofs.bytes_of.Reads as bytes_of
use Rattle.record_bytes.proofs.bytes_of.Kinds as bytes-of-k

pub marks-known-one : OneAnswer 0 marks-known-k.ps marks-known-k.r marks-known.Post
marks-known-one κs a x y s t = same

pub neighbors-of-one : OneAnswer 0 neighbors-of-k.ps neighbors-of-k.r neighbors-of.Post
neighbors-of-one κs a x y s t = same

pub bytes-of-one : OneAnswer 0 bytes-of-k.ps bytes-of-k.r bytes_of.Post
bytes-of-one κs a x y s t = same
