use mathlib.Core.Path.{refl, ◌∙◌}
use native.Mathlib.Omega.{arith}
use Rattle.lists.specs.Lists.{turns}
use Rattle.lists.proofs.Turns.{turns-step, turns-done}
use Rattle.rfc6386.specs.LoopFilter.{luma_of, chroma_of}
use Rattle.loop_filter.proofs.Seats.{ready-same}
use Rattle.loop_filter.proofs.Picture.filter.Goals as goal

pub loop-r-init : goal.loop-r-init
unfolding turns
loop-r-init c = (omega arith, refl, refl, refl, refl, refl, refl)

pub filter_row-requires-clause-ready : goal.filter_row-requires-clause-ready
filter_row-requires-clause-ready c =
    let i = c.loop-r.invariant in
    ready-same _ _ _ _ _ _ _ _ c.requires.ready c.loop-r.y c.loop-r.u c.loop-r.v i.1 i.2 i.3

pub loop-r-preserved : goal.loop-r-preserved
loop-r-preserved c =
    let i = c.loop-r.invariant in
    let e = c.filter_row.ensures in (
      omega arith,
      c.filter_row.auto.y ∙ i.1,
      c.filter_row.auto.u ∙ i.2,
      c.filter_row.auto.v ∙ i.3,
      turns-step _ _ _ _ _ i.4 e.0,
      turns-step _ _ _ _ _ i.5 e.1,
      turns-step _ _ _ _ _ i.6 e.2,
    )

pub returns : goal.returns
unfolding luma_of chroma_of
returns c =
    let i = c.loop-r.invariant in (
      turns-done _ _ _ _ _ i.4 i.0 c.loop-r-test.false,
      turns-done _ _ _ _ _ i.5 i.0 c.loop-r-test.false,
      turns-done _ _ _ _ _ i.6 i.0 c.loop-r-test.false,
    )
