-- `wht::pass` meets its contract: before turn c the first c columns stand as rows. Assumes nothing.
use mathlib.Core.Path.{◌≡◌, refl}
use native.Mathlib.Omega.{arith}
use lib.IntN.{pos}
use lib.ListN.{replicate}
use Rattle.lists.proofs.Table.{table_none, table_done}
use Rattle.wht.specs.Pass.{passed_at, passed}
use Rattle.wht.proofs.Passes.{column-small, pass-turn}
use Rattle.wht.proofs.pass.Goals as goal

pub loop-c-init : goal.loop-c-init
loop-c-init c = (omega arith, table_none _ _)

pub line-requires : goal.line-requires
line-requires c =
    column-small _ c.loop-c.c c.requires

pub loop-c-preserved : goal.loop-c-preserved
loop-c-preserved c =
    (omega arith, pass-turn _ c.loop-c.c c.requires _ _ _ _ _ _ _ c.line.ensures refl refl refl refl (omega arith) refl c.loop-c.invariant.1)

pub returns : goal.returns
unfolding passed
returns c =
    let i = c.loop-c in
    let full : i.c ≡ 4 = omega arith in
    table_done 16 (passed_at c.args.x) (replicate 16 (pos 0)) i.t (rw full at i.invariant.1) refl
