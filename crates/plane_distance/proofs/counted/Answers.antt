-- `plane_distance::counted` meets its contract. Assumes nothing.
use Prim.Native.Nat.{ℕ, ◌+◌}
use mathlib.Core.Bool.{Bool, true, false}
use mathlib.Core.Path.{◌≡◌, refl, sym, ap, ◌∙◌}
use lib.Dec.{eqb}
use lib.ListN.{get_or}
use Rattle.std.proofs.Common.{rules}
use Rattle.std.specs.Int.{from_bool}
use Rattle.lists.specs.Lists.{pick}
use Rattle.lists.proofs.Each.{each_all}
use Rattle.lists.proofs.Table.{table-ext}
use Rattle.plane_distance.specs.Apart.{counted}
use Rattle.lists.proofs.FromFn.{made-table}
use Rattle.plane_distance.proofs.counted.Goals as goal

one_or_none : (b : Bool) → from_bool b ≡ pick b 1 0
one_or_none true = refl
one_or_none false = refl

pub returns : goal.returns
unfolding counted
returns c =
    let n = c.args.n.now in
    let d = c.args.d.now in
    made-table _ _ (λ i. get_or n i 0 + from_bool (eqb (get_or d i 0) 0)) (λ i y q k. search rules) _ 64 c.from_fn.ensures.items
    ∙ table-ext 64 (λ k. get_or n k 0 + from_bool (eqb (get_or d k 0) 0)) (λ k. get_or n k 0 + pick (eqb (get_or d k 0) 0) 1 0) (λ k h. ap (λ (x : ℕ). get_or n k 0 + x) (one_or_none (eqb (get_or d k 0) 0)))
    ∙ sym (each_all 0 (λ k x. x + pick (eqb (get_or d k 0) 0) 1 0) n 64 c.told-n)
