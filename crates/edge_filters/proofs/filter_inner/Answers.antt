use Rattle.rfc6386.specs.LoopFilter.{filtered}
use native.Mathlib.Omega.{arith}
use Rattle.edge_filters.proofs.Lanes.{Bytes, inner-is}
use Rattle.rfc6386.specs.LoopFilter.{near, smooth, steep}
use Rattle.edge_filters.proofs.filter_inner.Goals as goal

pub returns : goal.returns
unfolding filtered
returns c = let a = c.args in let h : Bytes a.x = record { b2 = omega arith; b1 = omega arith; b0 = omega arith; c0 = omega arith; c1 = omega arith; c2 = omega arith } in let e = inner-is a.x h (near a.l a.x) (smooth a.l a.x) (steep a.l a.x) in cc
