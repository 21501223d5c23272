-- The call with one level answers as the call with that level for each macroblock. Assumes nothing.
use Prim.Native.Nat.{ℕ, zero, suc, ◌-◌, ◌*◌, ◌<◌, ◌≤◌}
use mathlib.Core.Path.{◌≡◌, refl, sym, ap, ◌∙◌}
use mathlib.Core.Bool.{Bool, true, false}
use mathlib.Core.List.{List}
use native.Mathlib.Nat.{le_of_lt, mul-le-mul}
use native.Mathlib.Omega.{arith}
use lib.Dec.{leb, eqb}
use lib.ListN.{length, get_or, replicate, length-replicate, get_or-replicate}
use borrow.Author.Tests.{eq-eqb}
use Rattle.lists.specs.Lists.{turns, both}
use Rattle.rfc6386.specs.Picture.{place_ok}
use Rattle.picture_limits.proofs.Accepted.{place-says}
use Rattle.loop_filter.specs.Picture.{level_of, level_turn, levels_ok}
use Rattle.loop_filter.specs.Answers.{refusal_of, filtered_planes, filter_answer, levels_answer}
use Rattle.filter_laws.proofs.Planes.{luma-ext, chroma-ext}

both-same : (b : Bool) → both b b ≡ b
both-same true = refl
both-same false = refl

module _ (n level : ℕ) where
  abbrev pub all : List ℕ
  all = replicate n level

  length-all : length all ≡ n
  length-all = length-replicate n level

  all-at : (k : ℕ) → k < n → get_or all k 0 ≡ level
  all-at k p = get_or-replicate n k level 0 p

  some-ok : (m : ℕ) → suc m ≤ n → turns (suc m) (level_turn all) true ≡ leb level 63
  unfolding turns
  some-ok zero p = rw (all-at 0 p)
  some-ok (suc m) p = rw (some-ok m (le_of_lt p), all-at (suc m) p) (both-same (leb level 63))

  all-ok : (m : ℕ) → n ≡ suc m → levels_ok all ≡ leb level 63
  unfolding levels_ok
  all-ok m e = ap (λ (k : ℕ). turns k (level_turn all) true) (length-all ∙ e) ∙ some-ok m (omega arith)

halves : (b : Bool) → both b b ≡ both b true
halves true = refl
halves false = refl

module _ (cols rows kind level sharp : ℕ) (inner y u v : List ℕ) where
  same_number : (t : Bool) → place_ok cols rows 0 0 ≡ t
      → refusal_of cols rows (length y) (length u) (length v) (length inner) (length inner) (leb level 63) sharp kind
      ≡ refusal_of cols rows (length y) (length u) (length v) (length inner) (length (all (cols * rows) level)) (levels_ok (all (cols * rows) level)) sharp kind
  unfolding refusal_of
  same_number false e = rw e
  same_number true e =
      let p = place-says cols rows 0 0 e in
      let some : 1 * 1 ≤ cols * rows = mul-le-mul p.column p.row in
      let m : cols * rows ≡ suc (cols * rows - 1) = omega arith in
      rw (all-ok (cols * rows) level (cols * rows - 1) m, eq-eqb (length (all (cols * rows) level)) (cols * rows) (length-all (cols * rows) level), halves (eqb (length inner) (cols * rows)))

  same-level : (k : ℕ) → k < cols * rows → level ≡ level_of false 0 (all (cols * rows) level) k
  unfolding level_of
  same-level k p = sym (all-at (cols * rows) level k p)

  same-planes : (s : Bool) → filtered_planes s sharp (λ (k : ℕ). level) inner cols rows (y, u, v) ≡ filtered_planes s sharp (level_of false 0 (all (cols * rows) level)) inner cols rows (y, u, v)
  unfolding filtered_planes
  same-planes s =
      rw (
        luma-ext s sharp (λ (k : ℕ). level) (level_of false 0 (all (cols * rows) level)) inner cols rows same-level y,
        chroma-ext s sharp (λ (k : ℕ). level) (level_of false 0 (all (cols * rows) level)) inner cols rows same-level u,
        chroma-ext s sharp (λ (k : ℕ). level) (level_of false 0 (all (cols * rows) level)) inner cols rows same-level v,
      )

  pub one-level-is : filter_answer cols rows kind level sharp inner y u v ≡ levels_answer cols rows kind sharp (all (cols * rows) level) inner y u v
  unfolding filter_answer levels_answer
  one-level-is = rw (same_number (place_ok cols rows 0 0) refl, same-planes (eqb kind 1))
