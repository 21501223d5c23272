-- Demand 3 of each pixel of a plane that is predicted whole, and of a sub-block, where the sixteen coefficients of each block lie from
-- -8191 to 8191.
--     demand3-added     row r and column c of a plane
--     demand3-sub       pixel i of a sub-block
-- Assumes nothing.
use Prim.Native.Nat.{ℕ, ◌+◌, ◌*◌, ◌/◌, ◌%◌, ◌^◌, ◌<◌}
use mathlib.Core.Path.{◌≡◌, refl}
use mathlib.Core.Bool.{Bool, true, false}
use mathlib.Core.List.{List}
use lib.Dec.{ltb, lit<}
use lib.IntN.{ℤ, pos}
use lib.ListN.{get_or}
use lib.Signed.{le_z_yes}
use borrow.Author.Tests.{ltb-true, lt-ltb}
use Rattle.whole.proofs.Range.{Small}
use Rattle.lists.specs.Lists.{pick}
use Rattle.lists.proofs.Table.{table_at}
use Rattle.rfc6386.specs.Dct.{column, passes, residue, T}
use Rattle.rfc6386.specs.Residue.{sum}
use Rattle.rfc6386.specs.Walk.{added_blocks, sub_pixels}
use Rattle.rfc6386.proofs.DctBlocks.{residue-ext}
use Rattle.rfc6386.specs.Exact.{Within, exact_pixel}
use Rattle.rfc6386.proofs.Demand3.{demand3-pixel}
use Rattle.rfc6386.proofs.Planes.{added-at}

-- the exact transform too depends on the block's sixteen coefficients only
T-ext : (x y : ℕ → ℤ) → ((k : ℕ) → k < 16 → x k ≡ y k) → (r c : ℕ) → T x r c ≡ T y r c
unfolding T passes column
T-ext x y e r c =
    rw (
      e 0 (lit< tt),
      e 1 (lit< tt),
      e 2 (lit< tt),
      e 3 (lit< tt),
      e 4 (lit< tt),
      e 5 (lit< tt),
      e 6 (lit< tt),
      e 7 (lit< tt),
      e 8 (lit< tt),
      e 9 (lit< tt),
      e 10 (lit< tt),
      e 11 (lit< tt),
      e 12 (lit< tt),
      e 13 (lit< tt),
      e 14 (lit< tt),
      e 15 (lit< tt),
    )

-- the sixteen, and 0 after them
abbrev sixteen : (ℕ → ℤ) → ℕ → ℤ
sixteen x k = pick (ltb k 16) (x k) (pos 0)

abbrev pub Block8191 : (ℕ → ℤ) → Type 0
Block8191 x = (k : ℕ) → k < 16 → Small 8191 (x k)

within : (t : Bool) (z : ℤ) → (t ≡ true → Small 8191 z) → Small 8191 (pick t z (pos 0))
within true z h = h refl
within false z h = (le_z_yes tt, le_z_yes tt)

pub demand3-block : (x : ℕ → ℤ) → Block8191 x → (r c p : ℕ) → Within (13 * 2 ^ 32) (2 ^ 35 * sum p (residue x r c)) (exact_pixel x r c p)
demand3-block x h r c p =
    let e : (k : ℕ) → k < 16 → x k ≡ sixteen x k = λ k l. rw (lt-ltb k 16 l) in
    rw (residue-ext x (sixteen x) e r c, T-ext x (sixteen x) e r c)
    (demand3-pixel (sixteen x) (λ k. within (ltb k 16) (x k) (λ t. h k (ltb-true k 16 t))) r c p)

pub demand3-added : (n : ℕ) (p : List ℕ) (x : ℕ → ℕ → ℤ) (r c : ℕ) → r < n → c < n → Block8191 (x (n / 4 * (r / 4) + c / 4))
    → Within (13 * 2 ^ 32) (2 ^ 35 * get_or (added_blocks n p x) (r * n + c) 0) (exact_pixel (x (n / 4 * (r / 4) + c / 4)) (r % 4) (c % 4) (get_or p (r * n + c) 0))
demand3-added n p x r c l k h =
    rw (added-at n p x r c l k) (demand3-block (x (n / 4 * (r / 4) + c / 4)) h (r % 4) (c % 4) (get_or p (r * n + c) 0))

pub demand3-sub : (p : List ℕ) (x : ℕ → ℤ) (i : ℕ) → i < 16 → Block8191 x
    → Within (13 * 2 ^ 32) (2 ^ 35 * get_or (sub_pixels false p x) i 0) (exact_pixel x (i / 4) (i % 4) (get_or p i 0))
unfolding sub_pixels
demand3-sub p x i l h =
    rw (table_at 16 (λ i. sum (get_or p i 0) (residue x (i / 4) (i % 4))) i 0 l) (demand3-block x h (i / 4) (i % 4) (get_or p i 0))
