-- `plane_distance::raised` meets its contract. Assumes nothing.
use Prim.Native.Nat.{max}
use mathlib.Core.Path.{sym, ◌∙◌}
use lib.ListN.{get_or}
use Rattle.std.proofs.Common.{rules}
use Rattle.lists.proofs.Each.{each_all}
use Rattle.plane_distance.specs.Apart.{raised}
use Rattle.lists.proofs.FromFn.{made-table}
use Rattle.plane_distance.proofs.raised.Goals as goal

pub returns : goal.returns
unfolding raised
returns c =
    made-table _ _ _ (λ i y q k. search rules) _ 64 c.from_fn.ensures.items
    ∙ sym (each_all 0 (λ k x. max x (get_or c.args.d.now k 0)) c.args.m.now 64 c.told-m)
