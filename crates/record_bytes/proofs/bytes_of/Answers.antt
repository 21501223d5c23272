-- `record_bytes::bytes_of` meets its contract. Assumes nothing.
use Rattle.record_bytes.proofs.Laid.{laid-is}
use Rattle.record_bytes.proofs.bytes_of.Goals as goal

pub returns : goal.returns
returns c = rw (c.lay_chroma-2.ensures, c.lay_chroma.ensures, c.lay_luma.ensures) (laid-is _)
