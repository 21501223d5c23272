-- `blocks::take_padded` meets its contract: the list is drawn from the front. Assumes nothing.
use Prim.Native.Nat.{◌+◌}
use mathlib.Core.Path.{◌≡◌, refl, ◌∙◌}
use lib.ListN.{length, get_or}
use Rattle.lists.proofs.Table.{table_none, table-turn, table_done}
use lib.IntN.{pos}
use Rattle.blocks.specs.Taken.{taken}
use Rattle.whole.proofs.Held.{held16}
use native.Mathlib.Omega.{arith}
use Rattle.blocks.proofs.take_padded.Goals as goal

pub loop-k-init : goal.loop-k-init
loop-k-init c = table_none _ _

pub loop-k-preserved : goal.loop-k-preserved
loop-k-preserved c =
    let a = c.args in
    table-turn _ (λ i. get_or a.coeffs.now (a.at + i) (pos 0)) _ _ _ c.loop-k.invariant
    (held16 c.coefficient.result c.coefficient.type_inv ∙ c.coefficient.ensures) (omega arith)

pub returns : goal.returns
unfolding taken
returns c =
    let l = c.loop-k in
    let out = c.args.out.now in
    let full : l.k ≡ length out = omega arith in
    table_done (length out) _ out _ (rw full at l.invariant) refl
