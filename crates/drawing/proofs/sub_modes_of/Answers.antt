-- `drawing::sub_modes_of` meets its contract. Assumes nothing.
use mathlib.Core.Path.{◌≡◌, refl, sym}
use native.Mathlib.Omega.{arith}
use lib.ListN.{length-set, replicate}
use Rattle.lists.specs.Lists.{within}
use Rattle.lists.proofs.Table.{table_none, table-turn, table_done}
use Rattle.lists.proofs.Within.{within-goes-on}
use Rattle.macroblock.specs.declared.modes.IntraBmode.TheVariants as b
use Rattle.std.proofs.lemmas.Result.{err_from_is_err_and}
use Rattle.drawing.specs.Drawn.{sub_modes_of}
use Rattle.drawing.proofs.Bytes.{b-none, b-one, within-no}
use Rattle.drawing.proofs.sub_modes_of.Goals as goal

pub loop-k-init : goal.loop-k-init
unfolding within
loop-k-init c = record { known = refl; made = table_none _ _; sized = refl }

pub returns-in_err-modes : goal.returns-in_err-modes
returns-in_err-modes c =
    let p = err_from_is_err_and c.from_residual.result c.from_residual.ensures.1 in
    let k = b-none _ _ c.in_err-modes.ensures in
    rw (p.1, p.2, k.0, within-no 9 16 c.loop-k.k c.args.bytes (omega arith) k.1) refl

pub loop-k-preserved : goal.loop-k-preserved
loop-k-preserved c =
    let i = c.loop-k.invariant in
    let k = b-one _ _ c.in_ok-modes.ensures in record {
      known = within-goes-on _ _ _ _ k.0 i.known;
      made = table-turn _ _ _ _ _ i.made k.1 (omega arith);
      sized = simp length-set i.sized;
    }

pub returns : goal.returns
unfolding sub_modes_of
returns c =
    let i = c.loop-k.invariant in
    let e : c.loop-k.k ≡ 16 = omega arith in
    rw (sym (rw e at i.known), table_done 16 _ (replicate 16 b.Dc) _ (rw e at i.made) refl) refl
