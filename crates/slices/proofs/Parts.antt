-- A part of a slice, n elements from `at` on: as a read of it gives them, and as a write leaves the slice. Assumes nothing.
use Prim.Native.Nat.{ℕ, ◌+◌, ◌-◌, ◌≤◌}
use mathlib.Core.Path.{◌≡◌, refl, ap, ◌∙◌}
use mathlib.Core.List.{List}
use native.Mathlib.Omega.{arith}
use borrow.Rule.Slice.PartMut.{mid_of, put_mid}
use lib.ListN.{length, take, drop, length-drop}
use lib.Seq.{length-take-le}
use Rattle.slices.specs.Copies.{or_zeros, put_in}
use Rattle.slices.proofs.Copied.{or-zeros-fit, put_fit}

module _ {A : Type 0} where
  pub part_length : (n at : ℕ) (l : List A) → at + n ≤ length l → length (take n (drop at l)) ≡ n
  part_length n at l h = length-take-le n (drop at l) (rw length-drop (omega (arith, h)))

  pub part-is : (n at : ℕ) (l : List A) → take (at + n - at) (drop at l) ≡ take n (drop at l)
  part-is n at l = let e : at + n - at ≡ n = omega arith in ap (λ (k : ℕ). take k (drop at l)) e

  pub part-whole : (z : A) (n at : ℕ) (l : List A) → at + n ≤ length l → or_zeros z n (take (at + n - at) (drop at l)) ≡ take n (drop at l)
  part-whole z n at l h =
      ap (λ (s : List A). or_zeros z n s) (part-is n at l) ∙ or-zeros-fit z n (take n (drop at l)) (part_length n at l h)

  pub part-put : (n at : ℕ) (l from to : List A) → at + n ≤ length l → to ≡ put_in n from (mid_of at (at + n - at) l)
      → put_mid at (at + n - at) l to ≡ put_mid at n l from
  part-put n at l from to h q =
      let e : at + n - at ≡ n = omega arith in
      let same : to ≡ from = (rw e at q) ∙ put_fit n from (take n (drop at l)) (part_length n at l h) in
      rw (e, same) refl
