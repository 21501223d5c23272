use mathlib.Core.Path.{refl, ◌∙◌}
use native.Mathlib.Omega.{arith}
use Rattle.lists.specs.Lists.{turns}
use Rattle.lists.proofs.Turns.{turns-step, turns-done}
use Rattle.rfc6386.specs.LoopFilter.{luma_row, chroma_row}
use Rattle.loop_filter.proofs.Seats.{byte-in, luma-seated, u-seated, v-seated}
use Rattle.loop_filter.proofs.LowLevels.{has-level}
use Rattle.loop_filter.proofs.Picture.filter_row.Goals as goal

pub loop-c-init : goal.loop-c-init
unfolding turns
loop-c-init c = (omega arith, refl, refl, refl, refl, refl, refl)

pub at-level-requires : goal.at-level-requires
at-level-requires c = has-level c.args.levels _ _ c.requires.levels (byte-in _ _ _ _ c.requires.row c.loop-c-test.true)

pub filter_macroblock-requires : goal.filter_macroblock-requires
filter_macroblock-requires c =
    let h = c.requires.ready in
    let p = c.requires.row in
    let q = c.loop-c-test.true in
    let i = c.loop-c.invariant in
    let b = byte-in _ _ _ _ p q in
    let w = h.low _ b in
    let e = c.at-level.ensures in (
      omega arith,
      h.sharpness,
      luma-seated _ _ _ _ _ _ _ _ h _ _ p q _ i.1,
      u-seated _ _ _ _ _ _ _ _ h _ _ p q _ i.2,
      v-seated _ _ _ _ _ _ _ _ h _ _ p q _ i.3,
    )

pub loop-c-preserved : goal.loop-c-preserved
loop-c-preserved c =
    let i = c.loop-c.invariant in
    let k = c.at-level.ensures in
    let e = c.filter_macroblock.ensures in (
      omega arith,
      c.filter_macroblock.auto.y ∙ i.1,
      c.filter_macroblock.auto.u ∙ i.2,
      c.filter_macroblock.auto.v ∙ i.3,
      turns-step _ _ _ _ _ i.4 (e.0 ∙ rw k refl),
      turns-step _ _ _ _ _ i.5 (e.1 ∙ rw k refl),
      turns-step _ _ _ _ _ i.6 (e.2 ∙ rw k refl),
    )

pub returns : goal.returns
unfolding luma_row chroma_row
returns c =
    let i = c.loop-c.invariant in (
      turns-done _ _ _ _ _ i.4 i.0 c.loop-c-test.false,
      turns-done _ _ _ _ _ i.5 i.0 c.loop-c-test.false,
      turns-done _ _ _ _ _ i.6 i.0 c.loop-c-test.false,
    )
