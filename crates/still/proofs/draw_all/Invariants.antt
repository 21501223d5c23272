-- `still::draw_all` meets its contract. Assumes nothing.
use Prim.Native.Nat.{◌≤◌, ◌*◌}
use mathlib.Core.Path.{◌≡◌}
use Rattle.lists.specs.Lists.{turns, total}
use Rattle.still.specs.Picture.{progress, turn, count_in, right_from, comes_alone, pixels_given}
use Rattle.still.proofs.draw_all.Given as goal

abbrev pub invariant-loop-k : goal.invariant-loop-k
invariant-loop-k l =
    let right = right_from l.cols l.rows (comes_alone l.right) (pixels_given l.right) in
    let next = turn l.cols l.rows l.modes l.sub_modes l.coeffs right in
    let start = progress 0 0 l.initial.y l.initial.u l.initial.v in record {
      finished : progress 0 0 l.y l.u l.v ≡ turns l.k next start;
      counted : l.clipped ≡ total l.k (λ j. count_in l.cols l.rows l.modes l.sub_modes l.coeffs right j (turns j next start));
      few : l.clipped ≤ 4294967296 * l.k;
    }
