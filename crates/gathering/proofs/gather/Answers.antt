-- `gathering::gather` meets its contract: in an accepted picture the macroblock lies in each plane. Assumes nothing.
use mathlib.Core.Path.{sym, ◌∙◌}
use native.Mathlib.Omega.{arith}
use Rattle.gathering.specs.Answers.{gathered}
use Rattle.picture_limits.proofs.Accepted.{place-says, sizes-say}
use Rattle.picture_limits.proofs.Bounds.{placed}
use Rattle.gathering.proofs.gather.Goals as goal

pub returns-then-not-place_ok : goal.returns-then-not-place_ok
unfolding gathered
returns-then-not-place_ok c = rw (sym c.place_ok.ensures ∙ c.if-not-place_ok.true)

pub returns-then-not-sizes_ok : goal.returns-then-not-sizes_ok
unfolding gathered
returns-then-not-sizes_ok c = rw (sym c.place_ok.ensures ∙ c.if-not-place_ok.false, sym c.sizes_ok.ensures ∙ c.if-not-sizes_ok.true)

pub beside-requires : goal.beside-requires
beside-requires c =
    let a = place-says _ _ _ _ (sym c.place_ok.ensures ∙ c.if-not-place_ok.false) in
    let b = sizes-say _ _ _ _ _ (sym c.sizes_ok.ensures ∙ c.if-not-sizes_ok.false) in (
      placed 16 _ _ _ _ _ (omega arith) a.column a.row b.y-plane,
      placed 8 _ _ _ _ _ (omega arith) a.column a.row b.u-plane,
      placed 8 _ _ _ _ _ (omega arith) a.column a.row b.v-plane,
      a.width,
    )

pub returns : goal.returns
unfolding gathered
returns c =
    rw (sym c.place_ok.ensures ∙ c.if-not-place_ok.false, sym c.sizes_ok.ensures ∙ c.if-not-sizes_ok.false, c.beside.ensures)
