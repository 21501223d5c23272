use Prim.Native.Nat.{◌≤◌}
use mathlib.Core.Path.{◌≡◌}
use lib.ListN.{length}
use Rattle.lists.specs.Lists.{turns}
use Rattle.rfc6386.specs.LoopFilter.{luma_at, chroma_at}
use Rattle.loop_filter.specs.Picture.{level_in}
use Rattle.loop_filter.proofs.Picture.filter_row.Given as goal

abbrev pub invariant-loop-c : goal.invariant-loop-c
invariant-loop-c l =
    (l.c ≤ l.self.cols) × (length l.y ≡ length l.initial.y) × (length l.u ≡ length l.initial.u) × (length l.v ≡ length l.initial.v)
    × (l.y ≡ turns l.c (luma_at l.self.simple l.self.sharpness (level_in l.levels) l.inner l.self.cols l.r) l.initial.y)
    × (l.u ≡ turns l.c (chroma_at l.self.simple l.self.sharpness (level_in l.levels) l.inner l.self.cols l.r) l.initial.u)
    × (l.v ≡ turns l.c (chroma_at l.self.simple l.self.sharpness (level_in l.levels) l.inner l.self.cols l.r) l.initial.v)
