-- `gathering::record::chroma_edges` meets its contract. Assumes nothing.
use native.Mathlib.Omega.{arith}
use mathlib.Core.List.{[]}
use Rattle.rfc6386.specs.Picture.{chroma_beside}
use Rattle.picture_limits.proofs.Bounds.{bounds}
use Rattle.gathering.proofs.Copied.{row-unread}
use Rattle.gathering.proofs.record.chroma_edges.Goals as goal

pub returns : goal.returns
unfolding chroma_beside
returns c =
    let b = bounds c.requires.0 in
    rw (c.row_above.ensures, c.left_column.ensures, row-unread 8 9 c.args.cols c.args.col c.args.row c.args.plane.now _ [] (omega arith))
