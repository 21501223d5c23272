use Prim.Native.Nat.{ℕ, ◌≤◌, ◌<◌, ◌*◌}
use mathlib.Core.Path.{◌≡◌}
use lib.ListN.{length, get_or}
use Rattle.edge_lines.proofs.Zip.{from}
use Rattle.edge_lines.proofs.turn.shuffle.Given as goal

abbrev pub invariant-loop-k : goal.invariant-loop-k
invariant-loop-k l = (l.k ≤ 64) × (length l.o ≡ 128) × ((i : ℕ) → i < 2 * l.k → get_or l.o i 0 ≡ get_or l.b (from i) 0)
