-- The count of a block's sixteen sums, made in the part of the plane that starts at the block: a turn of its loop, and the count said of the plane.
-- Assumes nothing.
use mathlib.Core.Path.{◌≡◌, sym, ap, ◌∙◌}
use mathlib.Core.List.{List}
use Prim.Native.Nat.{ℕ, ◌+◌, ◌-◌, ◌*◌, ◌/◌, ◌%◌, ◌<◌}
use native.Mathlib.Nat.{zero-add}
use lib.IntN.{ℤ, pos}
use lib.ListN.{length, get_or, take, drop}
use lib.Seq.{get_or-drop}
use lib.Signed.{mag}
use Rattle.lists.proofs.Parts.{tail-whole}
use Rattle.whole.proofs.Held.{R16, held16}
use Rattle.clipping.specs.Clipped.{over, clipped_at}
use Rattle.lists.specs.Lists.{total}
use Rattle.lists.proofs.Total.{total-turn, total_ext}

module _ (s : ℕ) (res : List ℤ) where
  -- pixel i of the block whose first pixel is at `at`
  abbrev pub over_at : ℕ → List ℕ → ℕ → ℕ
  over_at at l i = over (get_or l (at + (i / 4 * s + i % 4)) 0) (get_or res i (pos 0))

  pub count_turn : (l : List ℕ) (i n v : ℕ) → n ≡ total i (over_at 0 l) → mag (get_or res i (pos 0)) < 32768
      → v ≡ over (get_or l (i / 4 * s + i % 4) 0) (R16 (get_or res i (pos 0))) → n + v ≡ total (i + 1) (over_at 0 l)
  count_turn l i n v e m h =
      total-turn i (over_at 0 l) n v e
      (h ∙ ap (λ (z : ℤ). over (get_or l (i / 4 * s + i % 4) 0) z) (held16 (get_or res i (pos 0)) m)
      ∙ ap (λ (k : ℕ). over (get_or l k 0) (get_or res i (pos 0))) (sym (zero-add (i / 4 * s + i % 4))))

  -- the part's count is the plane's
  pub counted_back : (at : ℕ) (xs : List ℕ) → clipped_at 0 s res (take (length xs - at) (drop at xs)) ≡ clipped_at at s res xs
  unfolding clipped_at
  counted_back at xs =
      ap (λ (l : List ℕ). total 16 (over_at 0 l)) (tail-whole at xs)
      ∙ total_ext 16 (over_at 0 (drop at xs)) (over_at at xs) λ i h.
      ap (λ (p : ℕ). over p (get_or res i (pos 0)))
      (ap (λ (k : ℕ). get_or (drop at xs) k 0) (zero-add (i / 4 * s + i % 4)) ∙ get_or-drop at xs (i / 4 * s + i % 4) 0)
