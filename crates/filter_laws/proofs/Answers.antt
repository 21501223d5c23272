-- What the calls leave of a plane: as found where they refuse, and everywhere beyond the reach of the edges that are filtered. Assumes nothing.
--     luma-kept, u-kept, v-kept     with a level for each macroblock; with one level it is the same call, by `one-level-is`
--     refused-kept                  a refusal leaves the planes as found
--     simple-u, simple-v            the simple filter leaves U and V as found
use Prim.Native.Nat.{ℕ}
use mathlib.Core.Path.{◌≡◌, refl}
use mathlib.Core.Bool.{Bool, true, false}
use mathlib.Core.List.{List}
use lib.Dec.{eqb}
use lib.ListN.{length, get_or}
use Rattle.lists.specs.Lists.{pick}
use Rattle.macroblock.specs.Reply.{done}
use Rattle.loop_filter.specs.Picture.{level_of, levels_ok}
use Rattle.loop_filter.specs.Answers.{refusal_of, Planes, told, answered, filtered_planes, levels_answer}
use Rattle.filter_laws.proofs.Planes.{AwayFromAll, luma-keeps, chroma-keeps, simple-chroma}

picked : (f : Planes → List ℕ) (j : ℕ) (t : Bool) (a b : Planes) → get_or (f a) j 0 ≡ get_or (f b) j 0 → get_or (f (pick t a b)) j 0 ≡ get_or (f b) j 0
picked f j true a b e = e
picked f j false a b e = refl

whole : (f : Planes → List ℕ) (t : Bool) (a b : Planes) → f a ≡ f b → f (pick t a b) ≡ f b
whole f true a b e = e
whole f false a b e = refl

module _ (cols rows kind sharp : ℕ) (levels inner y u v : List ℕ) where
  abbrev number : ℕ
  number = refusal_of cols rows (length y) (length u) (length v) (length inner) (length levels) (levels_ok levels) sharp kind

  abbrev after : Planes
  after = filtered_planes (eqb kind 1) sharp (level_of false 0 levels) inner cols rows (y, u, v)

  pub luma-kept : (j : ℕ) → AwayFromAll (eqb kind 1) sharp (level_of false 0 levels) inner cols rows 16 j
      → get_or (levels_answer cols rows kind sharp levels inner y u v).1 j 0 ≡ get_or y j 0
  unfolding levels_answer answered filtered_planes
  luma-kept j h = picked (λ p. p.0) j (eqb number done) after (y, u, v) (luma-keeps (eqb kind 1) sharp (level_of false 0 levels) inner cols rows j h y)

  pub u-kept : (j : ℕ) → AwayFromAll (eqb kind 1) sharp (level_of false 0 levels) inner cols rows 8 j
      → get_or (levels_answer cols rows kind sharp levels inner y u v).2 j 0 ≡ get_or u j 0
  unfolding levels_answer answered filtered_planes
  u-kept j h = picked (λ p. p.1) j (eqb number done) after (y, u, v) (chroma-keeps (eqb kind 1) sharp (level_of false 0 levels) inner cols rows j h u)

  pub v-kept : (j : ℕ) → AwayFromAll (eqb kind 1) sharp (level_of false 0 levels) inner cols rows 8 j
      → get_or (levels_answer cols rows kind sharp levels inner y u v).3 j 0 ≡ get_or v j 0
  unfolding levels_answer answered filtered_planes
  v-kept j h = picked (λ p. p.2) j (eqb number done) after (y, u, v) (chroma-keeps (eqb kind 1) sharp (level_of false 0 levels) inner cols rows j h v)

  pub refused-kept : (n : ℕ) → n ≡ (levels_answer cols rows kind sharp levels inner y u v).0 → eqb n done ≡ false
      → levels_answer cols rows kind sharp levels inner y u v ≡ told n (y, u, v)
  unfolding levels_answer answered
  refused-kept n e f = rw (← e, f)

module _ (cols rows sharp : ℕ) (levels inner y u v : List ℕ) where
  pub simple-u : (levels_answer cols rows 1 sharp levels inner y u v).2 ≡ u
  unfolding levels_answer answered filtered_planes
  simple-u = whole (λ p. p.1) (eqb (number cols rows 1 sharp levels inner y u v) done) (after cols rows 1 sharp levels inner y u v) (y, u, v) (simple-chroma sharp (level_of false 0 levels) inner cols rows u)

  pub simple-v : (levels_answer cols rows 1 sharp levels inner y u v).3 ≡ v
  unfolding levels_answer answered filtered_planes
  simple-v = whole (λ p. p.2) (eqb (number cols rows 1 sharp levels inner y u v) done) (after cols rows 1 sharp levels inner y u v) (y, u, v) (simple-chroma sharp (level_of false 0 levels) inner cols rows v)
