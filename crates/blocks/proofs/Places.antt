-- Which residue stands where among those of four blocks, and what a block taken from the coefficients is. Assumes nothing.
use Prim.Native.Nat.{ℕ, ◌+◌, ◌-◌, ◌*◌, ◌<◌, ◌≤◌}
use mathlib.Core.Path.{◌≡◌, sym, ◌∙◌}
use mathlib.Core.List.{List}
use native.Mathlib.Omega.{arith}
use lib.IntN.{ℤ, pos}
use lib.ListN.{length, get_or, take, drop, length-drop}
use lib.Seq.{get_or-drop}
use Rattle.lists.proofs.Table.{table-length, table_at, table-ext, table-take}
use Rattle.rfc6386.specs.Dct.{residue, entry}
use Rattle.rfc6386.specs.Walk.{block_at}
use Rattle.rfc6386.proofs.DctBlocks.{residue-ext, four-at}
use Rattle.blocks.specs.Taken.{taken, residues_from}

pub taken-length : (n : ℕ) (coeffs : List ℤ) (at : ℕ) → length (taken n coeffs at) ≡ n
unfolding taken
taken-length n coeffs at = table-length n (λ k. get_or coeffs (at + k) (pos 0))

pub taken_at : (n : ℕ) (coeffs : List ℤ) (at k : ℕ) → k < n → entry (taken n coeffs at) k ≡ get_or coeffs (at + k) (pos 0)
unfolding taken
taken_at n coeffs at k l = table_at n (λ k. get_or coeffs (at + k) (pos 0)) k (pos 0) l

-- where the list has as many, they are a part of it
pub part-taken : (n : ℕ) (coeffs : List ℤ) (at : ℕ) → at + n ≤ length coeffs → take (at + n - at) (drop at coeffs) ≡ taken n coeffs at
unfolding taken
part-taken n coeffs at h =
    let e : at + n - at ≡ n = omega arith in
    let long : n ≤ length (drop at coeffs) = simp length-drop (omega arith) in
    rw e
    (sym (table-take n (drop at coeffs) (pos 0) long)
    ∙ table-ext n (λ i. get_or (drop at coeffs) i (pos 0)) (λ k. get_or coeffs (at + k) (pos 0)) (λ i l. get_or-drop at coeffs i (pos 0)))

pub residues-at : (coeffs : List ℤ) (at r b c : ℕ) → r < 4 → b < 4 → c < 4
    → get_or (residues_from coeffs at) (16 * r + 4 * b + c) (pos 0) ≡ residue (block_at coeffs at b) r c
unfolding residues_from
residues-at coeffs at r b c hr hb hc =
    four-at (taken 64 coeffs at) r b c (pos 0) hr hb hc ∙ residue-ext _ (block_at coeffs at b) coefficient r c
  where
    coefficient : (k : ℕ) → k < 16 → entry (taken 64 coeffs at) (16 * b + k) ≡ block_at coeffs at b k
    coefficient k l =
        let i : at + (16 * b + k) ≡ at + 16 * b + k = omega arith in
        taken_at 64 coeffs at (16 * b + k) (omega arith) ∙ rw i
