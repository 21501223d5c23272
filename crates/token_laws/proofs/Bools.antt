-- A bounded number of bools, whatever the bytes are: at most 19 a token, 16 tokens a block, 25 blocks a macroblock. Assumes nothing.
use Prim.Native.Nat.{ℕ, zero, suc, ◌+◌, ◌-◌, ◌*◌, ◌≤◌}
use mathlib.Core.Bool.{Bool, true, false}
use mathlib.Core.List.{List, [], ◌∷◌}
use mathlib.Core.Path.{◌≡◌, refl}
use native.Mathlib.Omega.{arith}
use lib.Dec.{eqb, leb}
use lib.ListN.{length, get_or}
use borrow.Author.Tests.{leb-true, leb-false}
use Rattle.lists.specs.Lists.{pick}
use Rattle.bool_decoder.specs.BoolCoder.{Coder, Reads, done, ask, ◌then◌, bit_of}
use Rattle.bool_decoder.proofs.Later.{AtMost, asked, asked-most}
use Rattle.tokens.specs.Tokens.{Tree, value, node, extras, treed, later_tree, Drawn, Thread, positions, unless_ended, row_of, class_of, zeroed, stored, one_block, blocks, all_blocks, base_of, first_of, count_of, marked}

module _ {A : Type 0} where
  more : (n m : ℕ) (r : Reads A) → n ≤ m → AtMost n r → AtMost m r
  unfolding AtMost
  more n m (done a) h q = tt
  more zero m (ask p k) h q = absurd q
  more (suc n) zero (ask p k) h q = absurd (omega arith)
  more (suc n) (suc m) (ask p k) h q = λ b. more n m (k b) (omega arith) (q b)

  done-most : (a : A) → AtMost 0 (done a)
  unfolding AtMost
  done-most a = tt

module _ {A B : Type 0} where
  in-turn : (n k : ℕ) (r : Reads A) (f : A → Reads B) → AtMost n r → ((a : A) → AtMost k (f a)) → AtMost (n + k) (r then f)
  unfolding AtMost ◌then◌
  in-turn n k (done a) f q g = more k (n + k) (f a) (omega arith) (g a)
  in-turn zero k (ask p c) f q g = absurd q
  in-turn (suc n) k (ask p c) f q g = more (suc (n + k)) (suc n + k) (ask p c then f) (omega arith) (λ b. in-turn n k (c b) f (q b) g)

extras-most : (ps : List ℕ) (v : ℕ) → AtMost (length ps) (extras ps v)
unfolding AtMost extras
extras-most [] v = tt
extras-most (p ∷ ps) v = λ b. extras-most ps (v + v + bit_of b)

larger : ℕ → ℕ → ℕ
larger a b = pick (leb a b) b a

larger-left : (a b : ℕ) → a ≤ larger a b
unfolding larger
larger-left a b = go (leb a b) refl
  where
    go : (t : Bool) → leb a b ≡ t → a ≤ pick t b a
    go true e = leb-true a b e
    go false e = omega arith

larger-right : (a b : ℕ) → b ≤ larger a b
unfolding larger
larger-right a b = go (leb a b) refl
  where
    go : (t : Bool) → leb a b ≡ t → b ≤ pick t b a
    go true e = omega arith
    go false e = omega (arith, leb-false a b e)

deep : Tree → ℕ
deep (value base ps) = length ps
deep (node n a b) = suc (larger (deep a) (deep b))

tree-most : (probs : List ℕ) (row : ℕ) (t : Tree) → AtMost (deep t) (treed probs row t)
unfolding AtMost treed deep
tree-most probs row (value base ps) =
    more (length ps + 0) (length ps) (extras ps 0 then (λ v. done (base + v))) (omega arith)
    (in-turn (length ps) 0 (extras ps 0) (λ v. done (base + v)) (extras-most ps 0) (λ a. tt))
tree-most probs row (node n a b) = go (tree-most probs row a) (tree-most probs row b)
  where
    go : AtMost (deep a) (treed probs row a) → AtMost (deep b) (treed probs row b) → (t : Bool)
        → AtMost (larger (deep a) (deep b)) (pick t (treed probs row b) (treed probs row a))
    go x y true = more (deep b) (larger (deep a) (deep b)) (treed probs row b) (larger-right (deep a) (deep b)) y
    go x y false = more (deep a) (larger (deep a) (deep b)) (treed probs row a) (larger-left (deep a) (deep b)) x

-- node 1 to node 10, and eleven extra bits
later-deep : deep later_tree ≡ 17
unfolding deep larger
later-deep = refl

module _ (probs : List ℕ) (base at : ℕ) (zeros : Bool) where
  abbrev after : ℕ → ℕ → Drawn → ℕ → Reads Drawn
  after k i x size =
      pick (eqb size 0)
      (positions probs base at zeros k true (i + 1) (row_of base (i + 1) 0) (zeroed zeros x))
      (ask 128 (λ minus. positions probs base at zeros k false (i + 1) (row_of base (i + 1) (class_of size)) (stored at i size minus x)))

  abbrev Rest : ℕ → Type 0
  Rest k = (z : Bool) (i row : ℕ) (x : Drawn) → AtMost (19 * k) (positions probs base at zeros k z i row x)

  after-most : (k i : ℕ) (x : Drawn) → Rest k → (size : ℕ) → AtMost (suc (19 * k)) (after k i x size)
  unfolding AtMost
  after-most k i x rest size = go (eqb size 0)
    where
      go : (t : Bool)
          → AtMost (suc (19 * k)) (pick t (positions probs base at zeros k true (i + 1) (row_of base (i + 1) 0) (zeroed zeros x))
          (ask 128 (λ minus. positions probs base at zeros k false (i + 1) (row_of base (i + 1) (class_of size)) (stored at i size minus x))))
      go true =
          more (19 * k) (suc (19 * k)) (positions probs base at zeros k true (i + 1) (row_of base (i + 1) 0) (zeroed zeros x)) (omega arith)
          (rest true (i + 1) (row_of base (i + 1) 0) (zeroed zeros x))
      go false = λ b. rest false (i + 1) (row_of base (i + 1) (class_of size)) (stored at i size b x)

  later-most : (k i row : ℕ) (x : Drawn) → Rest k → AtMost (18 + 19 * k) (treed probs row later_tree then after k i x)
  later-most k i row x rest =
      more (deep later_tree + suc (19 * k)) (18 + 19 * k) (treed probs row later_tree then after k i x) (omega (arith, later-deep))
      (in-turn (deep later_tree) (suc (19 * k)) (treed probs row later_tree) (after k i x) (tree-most probs row later_tree) (after-most k i x rest))

  unless-most : (n p : ℕ) (x : Drawn) (m : Reads Drawn) (z : Bool) → AtMost n m → AtMost (suc n) (unless_ended z p x m)
  unfolding unless_ended AtMost
  unless-most n p x m true h = more n (suc n) m (omega arith) h
  unless-most n p x m false h = go
    where
      go : (b : Bool) → AtMost n (pick b m (done x))
      go true = h
      go false = tt

  -- k tokens, each of at most 19 bools
  pub block-most : (k : ℕ) (z : Bool) (i row : ℕ) (x : Drawn) → AtMost (19 * k) (positions probs base at zeros k z i row x)
  unfolding positions AtMost
  block-most zero z i row x = tt
  block-most (suc k) z i row x =
      more (suc (18 + 19 * k)) (19 * suc k) (unless_ended z (get_or probs row 0) x (treed probs row later_tree then after k i x)) (omega arith)
      (unless-most (18 + 19 * k) (get_or probs row 0) x (treed probs row later_tree then after k i x) z (later-most k i row x (block-most k)))

module _ (probs : List ℕ) (zeros y2 : Bool) where
  one-most : (n : ℕ) (t : Thread) → AtMost 304 (one_block probs zeros y2 n t)
  unfolding one_block
  one-most n t =
      let first : ℕ = first_of y2 n in
      let row : ℕ = row_of (base_of y2 n) (first_of y2 n) (count_of n t) in
      let x : Drawn = record { out = t.out; some = false } in
      let m : Reads Drawn = positions probs (base_of y2 n) (16 * n) zeros (16 - first_of y2 n) false (first_of y2 n) row x in
      more (19 * (16 - first) + 0) 304 (m then (λ y. done (marked n t y))) (omega arith)
      (in-turn (19 * (16 - first)) 0 m (λ y. done (marked n t y)) (block-most probs (base_of y2 n) (16 * n) zeros (16 - first) false first row x) (λ y. done-most (marked n t y)))

  blocks-most : (k n : ℕ) (t : Thread) → AtMost (304 * k) (blocks probs zeros y2 k n t)
  unfolding blocks AtMost
  blocks-most zero n t = tt
  blocks-most (suc k) n t =
      more (304 + 304 * k) (304 * suc k) (one_block probs zeros y2 n t then (λ u. blocks probs zeros y2 k (n + 1) u)) (omega arith)
      (in-turn 304 (304 * k) (one_block probs zeros y2 n t) (λ u. blocks probs zeros y2 k (n + 1) u) (one-most n t) (λ u. blocks-most k (n + 1) u))

  -- a macroblock
  pub macroblock-most : (t : Thread) → AtMost 7600 (all_blocks probs zeros y2 t)
  macroblock-most t =
      more (304 * (25 - (1 - bit_of y2))) 7600 (all_blocks probs zeros y2 t) (omega arith) (blocks-most (25 - (1 - bit_of y2)) (1 - bit_of y2) t)

  pub bools-read : (src : List ℕ) (t : Thread) (c : Coder) → asked src (all_blocks probs zeros y2 t) c ≤ 7600
  bools-read src t c = asked-most 7600 src (all_blocks probs zeros y2 t) c (macroblock-most t)
