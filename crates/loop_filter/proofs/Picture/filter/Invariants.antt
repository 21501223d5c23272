use Prim.Native.Nat.{◌≤◌}
use mathlib.Core.Path.{◌≡◌}
use lib.ListN.{length}
use Rattle.lists.specs.Lists.{turns}
use Rattle.rfc6386.specs.LoopFilter.{luma_row, chroma_row}
use Rattle.loop_filter.specs.Picture.{level_in}
use Rattle.loop_filter.proofs.Picture.filter.Given as goal

abbrev pub invariant-loop-r : goal.invariant-loop-r
invariant-loop-r l =
    (l.r ≤ l.self.rows) × (length l.y ≡ length l.initial.y) × (length l.u ≡ length l.initial.u) × (length l.v ≡ length l.initial.v)
    × (l.y ≡ turns l.r (luma_row l.self.simple l.self.sharpness (level_in l.levels) l.inner l.self.cols) l.initial.y)
    × (l.u ≡ turns l.r (chroma_row l.self.simple l.self.sharpness (level_in l.levels) l.inner l.self.cols) l.initial.u)
    × (l.v ≡ turns l.r (chroma_row l.self.simple l.self.sharpness (level_in l.levels) l.inner l.self.cols) l.initial.v)
