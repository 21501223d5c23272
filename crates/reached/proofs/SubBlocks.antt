-- What a change can reach, it reaches: for each luma sub-block k a macroblock in mode B in which a change of its first coefficient moves every sub-block that
-- `walk_b-untouched` does not name. So that theorem cannot name more. Computed as one table. Assumes nothing.
--     moved              the last pixel of sub-block j grows, for each k and j, exactly where j can be reached from k
--     example-calls      the two calls of the B walker that this compares: accepted, and of coefficients that differ only in sub-block k
--     walk_b-reached      so each sub-block that is not untouched differs between them
use Prim.Native.Nat.{ℕ, zero, suc, ◌+◌, ◌-◌, ◌*◌, ◌/◌, ◌%◌, ◌<◌}
use mathlib.Core.Path.{◌≡◌, refl, sym, ap, ◌∙◌}
use mathlib.Core.Bool.{Bool, true, false}
use mathlib.Core.List.{List, ◌∷◌, ◌++◌}
use mathlib.Core.Logic.{inl, inr, ⊎_elim}
use native.Mathlib.Omega.{arith}
use borrow.Author.Tests.{le-leb, eq-eqb, ltb-true}
use lib.Dec.{leb, ltb, eqb}
use lib.IntN.{ℤ, pos}
use lib.ListN.{length, get_or, replicate, length-append, length-replicate}
use Rattle.whole.specs.Whole.{wrap, narrow, clamp_to}
use Rattle.lists.specs.Lists.{table, rows, turns, pick, both, part}
use Rattle.lists.proofs.Table.{table_at, table-agree}
use Rattle.macroblock.specs.Neighbors.{no_luma, absent}
use Rattle.macroblock.specs.Reply.{done}
use Rattle.macroblock.specs.declared.modes.MbModes.{MbModes}
use Rattle.macroblock.specs.declared.modes.IntraBmode.{IntraBmode}
use Rattle.macroblock.specs.declared.modes.IntraBmode.TheVariants.{He, Ld, Ve}
use Rattle.rfc6386.specs.Dct.{pass, column, passes, by_sin, by_cos, rounded, residue}
use Rattle.rfc6386.specs.Residue.{sum}
use Rattle.rfc6386.specs.Edges.{edge_or, pixel_or, left_or}
use Rattle.rfc6386.specs.Subblock.{sub_he, sub_ve, sub_ld, sub_pixel, predict_b}
use Rattle.rfc6386.specs.Walk.{laid, blank, copied_down, bordered, row_or, start_of, above_in, left_in, top_left_in, sub_prediction, sub_pixels, put_block, sub_block, walked, luma_of, y_parts}
use Rattle.reconstruct.specs.Answers.{MbAnswer, parts_of, walk_b}
use Rattle.walker_laws.specs.Around.{place_in, sub_of}
use Rattle.walker_laws.specs.Moves.{Untouched, SameButSub}
use Rattle.walker_laws.proofs.Laid.{below}

-- 384 coefficients, of which the first of sub-block k is x and all others 0
abbrev only : ℕ → ℕ → List ℤ
only k x = replicate (16 * k) (pos 0) ++ (pos x ∷ replicate (383 - 16 * k) (pos 0))

-- up to k's row to the right; below it down to the left, and straight down in the right column
abbrev modes_for : ℕ → List IntraBmode
modes_for k = table 16 (λ j. pick (leb (j / 4) (k / 4)) He (pick (eqb (j % 4) 3) Ve Ld))

-- the macroblock without edges
abbrev drawn : ℕ → ℕ → List ℕ
drawn k x = y_parts (modes_for k) false no_luma (only k x)

-- j can be reached from k: it is not untouched
abbrev reach : ℕ → ℕ → Bool
reach k j = both (leb (k / 4) (j / 4)) (leb (k % 4) (j % 4 + (j / 4 - k / 4)))

abbrev grown : List ℕ → List ℕ → ℕ → Bool
grown y z j = ltb (get_or y (place_in j 15) 0) (get_or z (place_in j 15) 0)

abbrev moves : ℕ → List Bool
moves k =
    let y : List ℕ = drawn k 0 in
    let z : List ℕ = drawn k 800 in
    table 16 (grown y z)

pub moved : table 16 moves ≡ table 16 (λ k. table 16 (reach k))
unfolding wrap narrow clamp_to table rows turns part no_luma pass column passes by_sin by_cos rounded residue sum edge_or pixel_or left_or sub_he sub_ve sub_ld sub_pixel predict_b
    laid blank copied_down bordered row_or start_of above_in left_in top_left_in sub_prediction sub_pixels put_block sub_block walked luma_of y_parts
moved = refl

-- ---- the two calls
pub differ-at : (n : ℕ) (x y : ℤ) (rest : List ℤ) (j : ℕ) → (j ≡ n → ⊥)
    → get_or (replicate n (pos 0) ++ (x ∷ rest)) j (pos 0) ≡ get_or (replicate n (pos 0) ++ (y ∷ rest)) j (pos 0)
differ-at zero x y rest zero h = absurd (h refl)
differ-at zero x y rest (suc j) h = refl
differ-at (suc n) x y rest zero h = refl
differ-at (suc n) x y rest (suc j) h = differ-at n x y rest j (λ e. h (ap suc e))

only-differ : (k : ℕ) → SameButSub k (only k 0) (only k 800)
only-differ k j h = differ-at (16 * k) (pos 0) (pos 800) (replicate (383 - 16 * k) (pos 0)) j (λ e. h (omega arith))

only-length : (k x : ℕ) → k < 16 → length (only k x) ≡ 384
only-length k x h = simp (length-append, length-replicate) (omega arith)

module _ (m : MbModes) (coded : m.skip ≡ false) (k : ℕ) (hk : k < 16) where
  abbrev call : ℕ → MbAnswer
  call x = walk_b (modes_for k) true m absent (only k x)

  call-is : (x : ℕ) → call x ≡ parts_of (modes_for k) m.uv false absent (only k x)
  unfolding walk_b
  call-is x = rw (coded, eq-eqb (length (only k x)) 384 (only-length k x hk))

  pub example-calls : ((call 0).reply ≡ done) × ((call 800).reply ≡ done) × SameButSub k (only k 0) (only k 800)
  unfolding parts_of
  example-calls = (ap (λ (r : MbAnswer). r.reply) (call-is 0), ap (λ (r : MbAnswer). r.reply) (call-is 800), only-differ k)

  call-y : (x : ℕ) → (call x).y ≡ drawn k x
  unfolding parts_of absent
  call-y x = ap (λ (r : MbAnswer). r.y) (call-is x)

  grows : (j : ℕ) → j < 16 → grown (drawn k 0) (drawn k 800) j ≡ reach k j
  grows j h = table-agree 16 (grown (drawn k 0) (drawn k 800)) (reach k) (table-agree 16 moves (λ k. table 16 (reach k)) moved k hk) j h

  reaches : (j : ℕ) → (Untouched (k / 4) (k % 4) (j / 4) (j % 4) → ⊥) → reach k j ≡ true
  reaches j n =
      ⊎_elim (λ l. absurd (n (inl l)))
      (λ l. ⊎_elim (λ q. absurd (n (inr q))) (λ q. rw (le-leb (k / 4) (j / 4) l, le-leb (k % 4) (j % 4 + (j / 4 - k / 4)) q)) (below (j % 4 + (j / 4 - k / 4)) (k % 4)))
      (below (j / 4) (k / 4))

  last-is : (y : List ℕ) (j : ℕ) → get_or (sub_of y j) 15 0 ≡ get_or y (place_in j 15) 0
  unfolding sub_of
  last-is y j = table_at 16 (λ i. get_or y (place_in j i) 0) 15 0 (omega arith)

  pub walk_b-reached : (j : ℕ) → j < 16 → (Untouched (k / 4) (k % 4) (j / 4) (j % 4) → ⊥) → sub_of (call 0).y j ≡ sub_of (call 800).y j → ⊥
  walk_b-reached j h n e =
      let less : get_or (drawn k 0) (place_in j 15) 0 < get_or (drawn k 800) (place_in j 15) 0 = ltb-true _ _ (grows j h ∙ reaches j n) in
      let f : sub_of (drawn k 0) j ≡ sub_of (drawn k 800) j = rw (call-y 0, call-y 800) at e in
      let same : get_or (drawn k 0) (place_in j 15) 0 ≡ get_or (drawn k 800) (place_in j 15) 0 =
      sym (last-is (drawn k 0) j) ∙ ap (λ (l : List ℕ). get_or l 15 0) f ∙ last-is (drawn k 800) j
      in
      omega arith
