-- Each promise of `checksum` admits one answer only. Assumes nothing.
use Rattle.lists.proofs.Answer.{OneAnswer, same}
use Rattle.checksum.proofs.Checksum.start.Reads as start
use Rattle.checksum.proofs.Checksum.start.Kinds as start-k
use Rattle.checksum.proofs.Checksum.with_byte.Reads as with_byte
use Rattle.checksum.proofs.Checksum.with_byte.Kinds as with-byte-k
use Rattle.checksum.proofs.Checksum.with_bytes.Reads as with-bytes
use Rattle.checksum.proofs.Checksum.with_bytes.Kinds as with-bytes-k

pub start-one : OneAnswer 0 start-k.ps start-k.r start.Post
start-one κs a x y s t = same

pub with-byte-one : OneAnswer 0 with-byte-k.ps with-byte-k.r with_byte.Post
with-byte-one κs a x y s t = same

pub with-bytes-one : OneAnswer 1 with-bytes-k.ps with-bytes-k.r with-bytes.Post
with-bytes-one κs a x y s t = same
