-- The counts and the pixels that are drawn: a sum is counted exactly where the pixel is not the sum itself.
--     block-exactly     pixel i of a block
--     plane-exactly     row r and column c of a plane predicted whole
--     sub-exactly       pixel i of a sub-block
-- Assumes nothing.
use mathlib.Core.Bool.{false}
use mathlib.Core.List.{List}
use mathlib.Core.Path.{◌≡◌}
use Prim.Native.Nat.{ℕ, ◌+◌, ◌*◌, ◌/◌, ◌%◌, ◌<◌}
use lib.IntN.{ℤ, pos, ◌+ℤ◌}
use lib.ListN.{get_or}
use Rattle.lists.proofs.Table.{table_at}
use Rattle.rfc6386.specs.Dct.{residue}
use Rattle.rfc6386.specs.Residue.{sum, summed}
use Rattle.rfc6386.specs.Walk.{added_blocks, sub_pixels}
use Rattle.rfc6386.proofs.Planes.{added-at}
use Rattle.clipping.specs.Clipped.{over}
use Rattle.clipping.proofs.Counted.{counted-exactly}

-- the pixel `drawn` where r is added to p
abbrev pub Exactly : ℕ → ℕ → ℤ → Type 0
Exactly drawn p r = (over p r ≡ 0 → pos drawn ≡ pos p +ℤ r) × (pos drawn ≡ pos p +ℤ r → over p r ≡ 0)

pub block-exactly : (n : ℕ) (p : List ℕ) (r : List ℤ) (i : ℕ) → i < n → Exactly (get_or (summed n p r) i 0) (get_or p i 0) (get_or r i (pos 0))
unfolding summed
block-exactly n p r i h =
    rw (table_at n (λ i. sum (get_or p i 0) (get_or r i (pos 0))) i 0 h) (counted-exactly (get_or p i 0) (get_or r i (pos 0)))

pub plane-exactly : (n : ℕ) (p : List ℕ) (x : ℕ → ℕ → ℤ) (r c : ℕ) → r < n → c < n
    → Exactly (get_or (added_blocks n p x) (r * n + c) 0) (get_or p (r * n + c) 0) (residue (x (n / 4 * (r / 4) + c / 4)) (r % 4) (c % 4))
plane-exactly n p x r c h k =
    rw (added-at n p x r c h k) (counted-exactly (get_or p (r * n + c) 0) (residue (x (n / 4 * (r / 4) + c / 4)) (r % 4) (c % 4)))

pub sub-exactly : (p : List ℕ) (x : ℕ → ℤ) (i : ℕ) → i < 16
    → Exactly (get_or (sub_pixels false p x) i 0) (get_or p i 0) (residue x (i / 4) (i % 4))
unfolding sub_pixels
sub-exactly p x i h =
    rw (table_at 16 (λ i. sum (get_or p i 0) (residue x (i / 4) (i % 4))) i 0 h) (counted-exactly (get_or p i 0) (residue x (i / 4) (i % 4)))
