-- A row's part of a plane: it is given exactly where its three conditions hold, and is then the count pixels from there on, else empty.
-- Assumes nothing.
use Prim.Native.Nat.{ℕ, ◌+◌, ◌*◌, ◌<◌, ◌≤◌}
use mathlib.Core.Bool.{Bool, true, false}
use mathlib.Core.Path.{◌≡◌}
use mathlib.Core.List.{List, []}
use native.Mathlib.Omega.{arith}
use lib.Dec.{leb, leb→le, le→leb}
use lib.ListN.{length, get_or, take, drop, length-drop}
use lib.Seq.{length-take-le, get_or-take, get_or-drop}
use Rattle.lists.specs.Lists.{both}
use Rattle.lists.proofs.Tests.{both_false, both_true, both-says, T_true, true-T}
use Rattle.rfc6386.specs.Picture.{given, row_part}

-- the k elements from a place on
module _ (l : List ℕ) (at k : ℕ) (h : at + k ≤ length l) where
  pub piece-length : length (take k (drop at l)) ≡ k
  piece-length = length-take-le k (drop at l) (simp length-drop (omega arith))

  pub piece-at : (i : ℕ) → i < k → get_or (take k (drop at l)) i 0 ≡ get_or l (at + i) 0
  piece-at i t = rw (get_or-take, get_or-drop)

module _ (n s r c k : ℕ) where
  abbrev A : Bool
  A = leb 1 k

  abbrev B : Bool
  B = leb (c + k) s

  abbrev C : Bool
  C = leb (r * s + c + k) n

  pub given-says : given n s r c k ≡ true → (1 ≤ k) × (c + k ≤ s) × (r * s + c + k ≤ n)
  unfolding given
  given-says e =
      let h = both-says A (both B C) e in
      let i = both-says B C (T_true (both B C) h.1) in
      (leb→le 1 k h.0, leb→le _ _ i.0, leb→le _ _ i.1)

  pub not-given : (1 ≤ k → c + k ≤ s → r * s + c + k ≤ n → ⊥) → false ≡ given n s r c k
  unfolding given
  not-given h =
      both_false A (both B C)
      (λ a t. let i = both-says B C (T_true (both B C) t) in h (leb→le 1 k a) (leb→le _ _ i.0) (leb→le _ _ i.1))

  pub is-given : 1 ≤ k → c + k ≤ s → r * s + c + k ≤ n → true ≡ given n s r c k
  unfolding given
  is-given p q t = both_true A (both B C) (le→leb _ _ p) (true-T (both_true B C (le→leb _ _ q) (le→leb _ _ t)))

-- where the three conditions hold, the part is the count pixels from there on
module _ (l : List ℕ) (s r c k : ℕ) (p : 1 ≤ k) (q : c + k ≤ s) (t : r * s + c + k ≤ length l) where
  pub part-is : row_part l s r c k ≡ take k (drop (r * s + c) l)
  unfolding row_part
  part-is = rw (← is-given (length l) s r c k p q t)

  pub part_length : length (row_part l s r c k) ≡ k
  part_length = rw part-is (piece-length l (r * s + c) k t)

  pub part_at : (i : ℕ) → i < k → get_or (row_part l s r c k) i 0 ≡ get_or l (r * s + c + i) 0
  part_at i h = rw part-is (piece-at l (r * s + c) k t i h)

-- where one of them does not, it is empty
pub part-empty : (l : List ℕ) (s r c k : ℕ) → (1 ≤ k → c + k ≤ s → r * s + c + k ≤ length l → ⊥) → row_part l s r c k ≡ []
unfolding row_part
part-empty l s r c k h = rw (← not-given (length l) s r c k h)
