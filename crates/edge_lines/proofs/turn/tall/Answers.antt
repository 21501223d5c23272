use Rattle.edge_lines.proofs.Zip.{tall-is}
use Rattle.edge_lines.proofs.turn.tall.Goals as goal

pub returns : goal.returns
returns c = tall-is _ _ _ _ c.shuffle.ensures c.shuffle-2.ensures c.shuffle-3.ensures
