-- `planes::luma::seeds` meets its contract. Assumes nothing.
use Rattle.planes.proofs.Seeded.{y2-taken}
use Rattle.planes.proofs.luma.seeds.Goals as goal

pub returns : goal.returns
returns c = rw (c.inverse_wht_4x4.ensures, c.first.ensures) (y2-taken _)
