-- A part of a list, by its elements. Assumes nothing.
use Prim.Native.Nat.{ℕ, ◌+◌, ◌-◌, ◌≤◌}
use mathlib.Core.Path.{◌≡◌, sym, ◌∙◌}
use mathlib.Core.List.{List}
use native.Mathlib.Nat.{add-sub_cancel_left}
use native.Mathlib.Omega.{arith}
use lib.ListN.{length, get_or, take, drop, length-drop}
use lib.Seq.{get_or-drop}
use Rattle.lists.specs.Lists.{table}
use Rattle.lists.proofs.Table.{table-take, table-ext}

pub part-is : (b : List ℕ) (at n : ℕ) → at + n ≤ length b → take (at + n - at) (drop at b) ≡ table n (λ c. get_or b (at + c) 0)
part-is b at n h =
    rw add-sub_cancel_left
    (sym (table-take n (drop at b) 0 (rw length-drop (omega arith))) ∙ table-ext n _ _ (λ i q. get_or-drop at b i 0))
