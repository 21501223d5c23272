-- Every coefficient lies within 2,114 of 0: 67 and eleven extra bits. Assumes nothing.
use Prim.Native.Nat.{ℕ, zero, suc, ◌+◌, ◌-◌, ◌*◌, ◌^◌, ◌≤◌, ◌<◌}
use mathlib.Core.Bool.{Bool, true, false}
use mathlib.Core.List.{List, [], ◌∷◌}
use mathlib.Core.Path.{◌≡◌, refl, sym, ap, ◌∙◌}
use native.Mathlib.Omega.{arith}
use native.Mathlib.Nat.{pow-succ', mul_assoc, mul-one, one-mul, mul-le-mul_right}
use lib.Dec.{eqb}
use lib.IntN.{ℤ, pos}
use lib.ListN.{length, get_or, set, replicate}
use Rattle.lists.specs.Lists.{pick}
use Rattle.bool_decoder.specs.BoolCoder.{Reads, done, ask, ◌then◌, bit_of, past}
use Rattle.bool_decoder.proofs.Later.{Always, always-ran}
use Rattle.bool_decoder.specs.State.{stands_of, state_of, coder_of}
use Rattle.bool_decoder.specs.declared.state.BoolState.{BoolState}
use Rattle.token_probs.specs.Answers.{no_zero}
use Rattle.tokens.specs.Tokens.{Tree, value, node, extras, treed, later_tree, Drawn, Thread, positions, unless_ended, row_of, class_of, zeroed, stored, zigzag_of, signed_of, one_block, blocks, all_blocks, base_of, first_of, count_of, marked}
use Rattle.tokens.specs.Walks.{thread_of}
use Rattle.tokens.specs.Answers.{Answer, blank, refused, read_of, answered, walked, decoded}

-- a size of at most 2,114 with its sign
pub record Within (z : ℤ) : Type 0 where
  pub size : ℕ
  pub minus : Bool
  pub most : size ≤ 2114
  pub is : z ≡ signed_of size minus

-- each number of a list
unfoldable pub Each : List ℤ → Type 0
Each [] = Unit
Each (z ∷ zs) = Within z × Each zs

each_set : (l : List ℤ) (i : ℕ) (v : ℤ) → Each l → Within v → Each (set l i v)
unfolding Each
each_set [] i v h w = tt
each_set (z ∷ zs) zero v h w = (w, h.1)
each_set (z ∷ zs) (suc i) v h w = (h.0, each_set zs i v h.1 w)

none : Within (pos 0)
unfolding signed_of
none = record { size = 0; minus = false; most = omega arith; is = refl }

each_none : (n : ℕ) → Each (replicate n (pos 0))
unfolding Each
each_none zero = tt
each_none (suc n) = (none, each_none n)

module _ {A B : Type 0} (P : A → Type 0) (Q : B → Type 0) where
  always-then : (m : Reads A) (f : A → Reads B) → Always P m → ((a : A) → P a → Always Q (f a)) → Always Q (m then f)
  unfolding Always ◌then◌
  always-then (done a) f h g = g a h
  always-then (ask p k) f h g = λ b. always-then (k b) f (h b) g

bit-most : (b : Bool) → bit_of b ≤ 1
bit-most true = omega arith
bit-most false = omega arith

extras-small : (ps : List ℕ) (v n : ℕ) → (v + 1) * 2 ^ length ps ≤ n → Always (λ (w : ℕ). w < n) (extras ps v)
unfolding Always extras
extras-small [] v n h = omega (arith, mul-one (v + 1))
extras-small (p ∷ ps) v n h =
    λ b.
    extras-small ps (v + v + bit_of b) n
    (let e : (v + 1) * 2 ^ suc (length ps) ≡ (v + 1) * 2 * 2 ^ length ps = ap (λ (i : ℕ). (v + 1) * i) (pow-succ' 2 (length ps)) ∙ sym (mul_assoc (v + 1) 2 (2 ^ length ps)) in
    let w : v + v + bit_of b + 1 ≤ (v + 1) * 2 = omega (arith, bit-most b) in
    omega (arith, mul-le-mul_right (2 ^ length ps) w))

-- no leaf of the tree gives more than 2,114
Small : Tree → Type 0
Small (value base ps) = base + 2 ^ length ps ≤ 2115
Small (node n a b) = Small a × Small b

tree-small : (probs : List ℕ) (row : ℕ) (t : Tree) → Small t → Always (λ (w : ℕ). w ≤ 2114) (treed probs row t)
unfolding Always treed Small
tree-small probs row (value base ps) h =
    always-then (λ (w : ℕ). w < 2 ^ length ps) (λ (w : ℕ). w ≤ 2114) (extras ps 0) (λ v. done (base + v))
    (extras-small ps 0 (2 ^ length ps) (omega (arith, one-mul (2 ^ length ps)))) (λ v l. omega arith)
tree-small probs row (node n a b) h = go (tree-small probs row a h.0) (tree-small probs row b h.1)
  where
    go : Always (λ (w : ℕ). w ≤ 2114) (treed probs row a) → Always (λ (w : ℕ). w ≤ 2114) (treed probs row b) → (t : Bool)
        → Always (λ (w : ℕ). w ≤ 2114) (pick t (treed probs row b) (treed probs row a))
    go x y true = y
    go x y false = x

later-small : Small later_tree
unfolding Small
later-small =
    (omega arith, (omega arith, ((omega arith, (omega arith, omega arith)), ((omega arith, omega arith), ((omega arith, omega arith), (omega arith, omega arith))))))

module _ (probs : List ℕ) (base at : ℕ) (zeros : Bool) where
  abbrev after : ℕ → ℕ → Drawn → ℕ → Reads Drawn
  after k i x size =
      pick (eqb size 0)
      (positions probs base at zeros k true (i + 1) (row_of base (i + 1) 0) (zeroed zeros x))
      (ask 128 (λ minus. positions probs base at zeros k false (i + 1) (row_of base (i + 1) (class_of size)) (stored at i size minus x)))

  abbrev Rest : ℕ → Type 0
  Rest k = (z : Bool) (i row : ℕ) (x : Drawn) → Each x.out → Always (λ (y : Drawn). Each y.out) (positions probs base at zeros k z i row x)

  after_kept : (k i : ℕ) (x : Drawn) → Each x.out → Rest k → (size : ℕ) → size ≤ 2114 → Always (λ (y : Drawn). Each y.out) (after k i x size)
  unfolding Always
  after_kept k i x h rest size l = go (eqb size 0)
    where
      go : (t : Bool)
          → Always (λ (y : Drawn). Each y.out) (pick t (positions probs base at zeros k true (i + 1) (row_of base (i + 1) 0) (zeroed zeros x))
          (ask 128 (λ minus. positions probs base at zeros k false (i + 1) (row_of base (i + 1) (class_of size)) (stored at i size minus x))))
      go true = rest true (i + 1) (row_of base (i + 1) 0) (zeroed zeros x) h
      go false =
          λ b.
          rest false (i + 1) (row_of base (i + 1) (class_of size)) (stored at i size b x)
          (each_set x.out (at + zigzag_of i) (signed_of size b) h (record { size = size; minus = b; most = l; is = refl }))

  unless-kept : (p : ℕ) (x : Drawn) (m : Reads Drawn) (z : Bool) → Each x.out → Always (λ (y : Drawn). Each y.out) m → Always (λ (y : Drawn). Each y.out) (unless_ended z p x m)
  unfolding unless_ended Always
  unless-kept p x m true h q = q
  unless-kept p x m false h q = go
    where
      go : (b : Bool) → Always (λ (y : Drawn). Each y.out) (pick b m (done x))
      go true = q
      go false = h

  block-kept : (k : ℕ) (z : Bool) (i row : ℕ) (x : Drawn) → Each x.out → Always (λ (y : Drawn). Each y.out) (positions probs base at zeros k z i row x)
  unfolding positions Always
  block-kept zero z i row x h = h
  block-kept (suc k) z i row x h =
      unless-kept (get_or probs row 0) x (treed probs row later_tree then after k i x) z h
      (always-then (λ (w : ℕ). w ≤ 2114) (λ (y : Drawn). Each y.out) (treed probs row later_tree) (after k i x) (tree-small probs row later_tree later-small)
      (after_kept k i x h (block-kept k)))

module _ (probs : List ℕ) (zeros y2 : Bool) where
  one_kept : (n : ℕ) (t : Thread) → Each t.out → Always (λ (u : Thread). Each u.out) (one_block probs zeros y2 n t)
  unfolding one_block Always
  one_kept n t h =
      always-then (λ (y : Drawn). Each y.out) (λ (u : Thread). Each u.out)
      (positions probs (base_of y2 n) (16 * n) zeros (16 - first_of y2 n) false (first_of y2 n) (row_of (base_of y2 n) (first_of y2 n) (count_of n t)) (record { out = t.out; some = false }))
      (λ y. done (marked n t y))
      (block-kept probs (base_of y2 n) (16 * n) zeros (16 - first_of y2 n) false (first_of y2 n) (row_of (base_of y2 n) (first_of y2 n) (count_of n t)) (record { out = t.out; some = false }) h)
      (λ y q. q)

  blocks-kept : (k n : ℕ) (t : Thread) → Each t.out → Always (λ (u : Thread). Each u.out) (blocks probs zeros y2 k n t)
  unfolding blocks Always
  blocks-kept zero n t h = h
  blocks-kept (suc k) n t h =
      always-then (λ (u : Thread). Each u.out) (λ (u : Thread). Each u.out) (one_block probs zeros y2 n t) (λ u. blocks probs zeros y2 k (n + 1) u) (one_kept n t h)
      (λ u q. blocks-kept k (n + 1) u q)

-- what the two public functions return
module _ (src probs : List ℕ) (y2 : Bool) (above left : List Bool) (s : BoolState) where
  blank-within : Each blank
  unfolding blank
  blank-within = each_none 400

  abbrev full : Bool → Answer
  full zeros =
      record {
        reply = 0;
        coeffs = (read_of src probs zeros y2 above left s).got.out;
        above = (read_of src probs zeros y2 above left s).got.above;
        left = (read_of src probs zeros y2 above left s).got.left;
        state = state_of src (read_of src probs zeros y2 above left s).next;
      }

  answered-within : (zeros : Bool) → Each (answered src probs zeros y2 above left s).coeffs
  unfolding answered
  answered-within zeros = go (past src (read_of src probs zeros y2 above left s).next)
    where
      read : Each (read_of src probs zeros y2 above left s).got.out
      read =
          always-ran (λ (u : Thread). Each u.out) src (all_blocks probs zeros y2 (thread_of above left blank)) (coder_of s)
          (blocks-kept probs zeros y2 (25 - (1 - bit_of y2)) (1 - bit_of y2) (thread_of above left blank) blank-within)

      go : (t : Bool) → Each (pick t (refused 9 above left s) (full zeros)).coeffs
      go true = blank-within
      go false = read

  pub walked-within : (zeros : Bool) → Each (walked src probs zeros y2 above left s).coeffs
  unfolding walked
  walked-within zeros = go (eqb (length probs) 1056) (stands_of src s)
    where
      go : (a b : Bool) → Each (pick a (pick b (answered src probs zeros y2 above left s) (refused 9 above left s)) (refused 1 above left s)).coeffs
      go true true = answered-within zeros
      go true false = blank-within
      go false b = blank-within

  -- every coefficient of an answer
  pub decoded-within : Each (decoded src probs y2 above left s).coeffs
  unfolding decoded
  decoded-within = go (eqb (length probs) 1056) (no_zero probs)
    where
      go : (a b : Bool) → Each (pick a (pick b (walked src probs false y2 above left s) (refused 10 above left s)) (refused 1 above left s)).coeffs
      go true true = walked-within false
      go true false = blank-within
      go false b = blank-within
