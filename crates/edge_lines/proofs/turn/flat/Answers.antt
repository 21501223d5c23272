use Rattle.edge_lines.proofs.Zip.{flat-is}
use Rattle.edge_lines.proofs.turn.flat.Goals as goal

pub returns : goal.returns
returns c = flat-is _ _ _ _ _ c.shuffle.ensures c.shuffle-2.ensures c.shuffle-3.ensures c.shuffle-4.ensures
