-- A plane that is predicted whole and then has its blocks' residues added.
--     plane-skipped, plane-coded   by the skip flag
--     added-at                     one pixel: the prediction's, with its block's residue added
--     added-ext, plane-ext         a plane depends on the sixteen coefficients of each of its blocks only
--     iwht-ext                     the inverse WHT depends on the first sixteen coefficients only
-- Assumes nothing.
use Prim.Native.Nat.{ℕ, ◌+◌, ◌*◌, ◌/◌, ◌%◌, ◌<◌}
use mathlib.Core.Path.{◌≡◌, refl, ap}
use mathlib.Core.Bool.{Bool, true, false}
use mathlib.Core.List.{List}
use lib.Dec.{lit<}
use lib.IntN.{ℤ, pos}
use lib.ListN.{get_or}
use Rattle.lists.proofs.Rows.{rows_ext, rows_at}
use Rattle.rfc6386.specs.Wht.{wht_column, wht_at, iwht}
use Rattle.rfc6386.specs.Dct.{residue}
use Rattle.rfc6386.specs.Residue.{sum}
use Rattle.rfc6386.specs.Walk.{added_blocks, plane}
use Rattle.rfc6386.proofs.DctBlocks.{residue-ext}

pub plane-skipped : (n : ℕ) (p : List ℕ) (x : ℕ → ℕ → ℤ) → plane n true p x ≡ p
unfolding plane
plane-skipped n p x = refl

pub plane-coded : (n : ℕ) (p : List ℕ) (x : ℕ → ℕ → ℤ) → plane n false p x ≡ added_blocks n p x
unfolding plane
plane-coded n p x = refl

pub added-at : (n : ℕ) (p : List ℕ) (x : ℕ → ℕ → ℤ) (r c : ℕ) → r < n → c < n
    → get_or (added_blocks n p x) (r * n + c) 0 ≡ sum (get_or p (r * n + c) 0) (residue (x (n / 4 * (r / 4) + c / 4)) (r % 4) (c % 4))
unfolding added_blocks
added-at n p x r c l k =
    rows_at n n (λ r c. sum (get_or p (r * n + c) 0) (residue (x (n / 4 * (r / 4) + c / 4)) (r % 4) (c % 4))) r c 0 l k

-- block b of the plane has row b / (n / 4) and column b % (n / 4) among its blocks
pub added-ext : (n : ℕ) (p : List ℕ) (x y : ℕ → ℕ → ℤ)
    → ((r c k : ℕ) → r < n → c < n → k < 16 → x (n / 4 * (r / 4) + c / 4) k ≡ y (n / 4 * (r / 4) + c / 4) k)
    → added_blocks n p x ≡ added_blocks n p y
unfolding added_blocks
added-ext n p x y e =
    rows_ext n n _ _ λ r c l m.
    ap (λ (z : ℤ). sum (get_or p (r * n + c) 0) z)
    (residue-ext (x (n / 4 * (r / 4) + c / 4)) (y (n / 4 * (r / 4) + c / 4)) (λ k h. e r c k l m h) (r % 4) (c % 4))

pub plane-ext : (n : ℕ) (skip : Bool) (p : List ℕ) (x y : ℕ → ℕ → ℤ)
    → ((r c k : ℕ) → r < n → c < n → k < 16 → x (n / 4 * (r / 4) + c / 4) k ≡ y (n / 4 * (r / 4) + c / 4) k)
    → plane n skip p x ≡ plane n skip p y
unfolding plane
plane-ext n true p x y e = refl
plane-ext n false p x y e = added-ext n p x y e

pub iwht-ext : (l m : List ℤ) → ((k : ℕ) → k < 16 → get_or l k (pos 0) ≡ get_or m k (pos 0)) → iwht l ≡ iwht m
unfolding iwht wht_at wht_column
iwht-ext l m e =
    rows_ext 4 4 _ _ λ r c h k.
    rw (
      e 0 (lit< tt),
      e 1 (lit< tt),
      e 2 (lit< tt),
      e 3 (lit< tt),
      e 4 (lit< tt),
      e 5 (lit< tt),
      e 6 (lit< tt),
      e 7 (lit< tt),
      e 8 (lit< tt),
      e 9 (lit< tt),
      e 10 (lit< tt),
      e 11 (lit< tt),
      e 12 (lit< tt),
      e 13 (lit< tt),
      e 14 (lit< tt),
      e 15 (lit< tt),
    )
