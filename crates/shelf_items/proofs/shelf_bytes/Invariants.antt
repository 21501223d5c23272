-- `shelf_items::shelf_bytes` meets its contract. Assumes nothing.
use Prim.Native.Nat.{◌≤◌}
use mathlib.Core.Path.{◌≡◌}
use Rattle.shelf_items.specs.Shelf.{bytes_at}
use Rattle.shelf_items.proofs.Turns.{out_after, replies_after, count_after}
use Rattle.shelf_items.proofs.shelf_bytes.Given as goal

abbrev pub invariant-loop-i : goal.invariant-loop-i
invariant-loop-i l = (l.i ≤ l.n)
    × (l.out ≡ out_after (bytes_at l.modes l.records l.sub_modes l.coeffs) l.i l.initial.out)
    × (l.replies ≡ replies_after (bytes_at l.modes l.records l.sub_modes l.coeffs) l.i l.initial.replies)
    × (l.clipped ≡ count_after (bytes_at l.modes l.records l.sub_modes l.coeffs) l.i l.initial.clipped)
