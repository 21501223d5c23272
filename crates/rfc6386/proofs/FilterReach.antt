-- No pixel beyond a filter's reach changes: three pixels on each side of a macroblock's edge, two of an inner edge, one in the simple filter.
-- And the plane keeps its length. Assumes nothing.
use Prim.Native.Nat.{ℕ, zero, suc, ◌+◌, ◌-◌, ◌*◌, ◌<◌, ◌≤◌}
use native.Mathlib.Nat.{le_refl}
use native.Mathlib.Omega.{arith}
use mathlib.Core.Path.{◌≡◌, refl, ap, ◌∙◌}
use mathlib.Core.Logic.{◌≢◌}
use mathlib.Core.List.{List}
use lib.ListN.{length, get_or, set, length-set}
use lib.Seq.{get_or-set_other, set-get_or}
use Rattle.macroblock.specs.declared.filter.Across.{Across}
use Rattle.macroblock.specs.declared.filter.Limits.{Limits}
use Rattle.macroblock.specs.declared.filter.Kind.{Kind}
use Rattle.macroblock.specs.declared.filter.Kind.TheVariants.{Simple, Outer, Inner}
use Rattle.rfc6386.proofs.FilterKeeps.{simple-p2, simple-p1, simple-q1, simple-q2, inner-p2, inner-q2}
use Rattle.lists.specs.Lists.{turns}
use Rattle.rfc6386.specs.LoopFilter.{filtered, taken, laid, crossed, edge, reach}

pub length-laid : (step i : ℕ) (x : Across) (b : List ℕ) → length (laid step i x b) ≡ length b
unfolding laid
length-laid step i x b = simp length-set

pub length-crossed : (kind : Kind) (l : Limits) (step i : ℕ) (b : List ℕ) → length (crossed kind l step i b) ≡ length b
unfolding crossed
length-crossed kind l step i b = length-laid step i _ b

pub length-edge : (kind : Kind) (l : Limits) (n at step next : ℕ) (b : List ℕ) → length (edge kind l n at step next b) ≡ length b
unfolding edge turns
length-edge kind l zero at step next b = refl
length-edge kind l (suc n) at step next b = length-crossed kind l step _ _ ∙ length-edge kind l n at step next b

-- what is put back where it was changes nothing
back : (b : List ℕ) (a c u v : ℕ) → u ≡ get_or b a 0 → v ≡ get_or b c 0 → set (set b a u) c v ≡ b
back b a c u v e f = rw (e, set-get_or b a 0, f) (set-get_or b c 0)

-- j is none of the pixels within r of the edge at i
abbrev pub Beyond : ℕ → ℕ → ℕ → ℕ → Type 0
Beyond r step i j = (d : ℕ) → d < 2 * r → j + r * step ≡ i + d * step → ⊥

module _ (l : Limits) (step i : ℕ) (b : List ℕ) (j : ℕ) (low : 4 * step ≤ i) where
  last-two : (x : Across) → Beyond 1 step i j → get_or (set (set b (i - step) x.p0) i x.q0) j 0 ≡ get_or b j 0
  last-two x h =
      let n2 : j ≢ i - step = λ e. h 0 (omega arith) (omega arith) in
      let n3 : j ≢ i = λ e. h 1 (omega arith) (omega arith) in
      simp get_or-set_other

  last-four : (x : Across) → Beyond 2 step i j
      → get_or (set (set (set (set b (i - 2 * step) x.p1) (i + step) x.q1) (i - step) x.p0) i x.q0) j 0 ≡ get_or b j 0
  last-four x h =
      let n1 : j ≢ i - 2 * step = λ e. h 0 (omega arith) (omega arith) in
      let n2 : j ≢ i - step = λ e. h 1 (omega arith) (omega arith) in
      let n3 : j ≢ i = λ e. h 2 (omega arith) (omega arith) in
      let n4 : j ≢ i + step = λ e. h 3 (omega arith) (omega arith) in
      simp get_or-set_other

  all-six : (x : Across) → Beyond 3 step i j → get_or (laid step i x b) j 0 ≡ get_or b j 0
  unfolding laid
  all-six x h =
      let n0 : j ≢ i - 3 * step = λ e. h 0 (omega arith) (omega arith) in
      let n1 : j ≢ i - 2 * step = λ e. h 1 (omega arith) (omega arith) in
      let n2 : j ≢ i - step = λ e. h 2 (omega arith) (omega arith) in
      let n3 : j ≢ i = λ e. h 3 (omega arith) (omega arith) in
      let n4 : j ≢ i + step = λ e. h 4 (omega arith) (omega arith) in
      let n5 : j ≢ i + 2 * step = λ e. h 5 (omega arith) (omega arith) in
      simp get_or-set_other

  inner-two : (x : Across) → x.p2 ≡ get_or b (i - 3 * step) 0 → x.q2 ≡ get_or b (i + 2 * step) 0
      → laid step i x b ≡ set (set (set (set b (i - 2 * step) x.p1) (i + step) x.q1) (i - step) x.p0) i x.q0
  unfolding laid
  inner-two x e f =
      ap (λ (m : List ℕ). set (set (set (set m (i - 2 * step) x.p1) (i + step) x.q1) (i - step) x.p0) i x.q0) (back b _ _ _ _ e f)

  simple-two : (x : Across) → x.p2 ≡ get_or b (i - 3 * step) 0 → x.q2 ≡ get_or b (i + 2 * step) 0
      → x.p1 ≡ get_or b (i - 2 * step) 0 → x.q1 ≡ get_or b (i + step) 0 → laid step i x b ≡ set (set b (i - step) x.p0) i x.q0
  simple-two x e f g h = inner-two x e f ∙ ap (λ (m : List ℕ). set (set m (i - step) x.p0) i x.q0) (back b _ _ _ _ g h)

  pub crossed-keeps : (kind : Kind) → Beyond (reach kind) step i j → get_or (crossed kind l step i b) j 0 ≡ get_or b j 0
  unfolding crossed taken
  crossed-keeps Simple h =
      let x = taken step i b in
      ap (λ (m : List ℕ). get_or m j 0)
      (simple-two (filtered Simple l x) (simple-p2 l x) (simple-q2 l x) (simple-p1 l x) (simple-q1 l x))
      ∙ last-two (filtered Simple l x) h
  crossed-keeps Outer h = all-six (filtered Outer l (taken step i b)) h
  crossed-keeps Inner h =
      let x = taken step i b in
      ap (λ (m : List ℕ). get_or m j 0) (inner-two (filtered Inner l x) (inner-p2 l x) (inner-q2 l x))
      ∙ last-four (filtered Inner l x) h

-- of an edge of n places, upright or level
pub edge-keeps : (kind : Kind) (l : Limits) (n at step next : ℕ) (b : List ℕ) (j : ℕ) → 4 * step ≤ at
    → ((k : ℕ) → k < n → Beyond (reach kind) step (at + k * next) j) → get_or (edge kind l n at step next b) j 0 ≡ get_or b j 0
unfolding edge turns
edge-keeps kind l zero at step next b j low h = refl
edge-keeps kind l (suc n) at step next b j low h =
    crossed-keeps l step (at + n * next) _ j (omega arith) kind (h n (le_refl (suc n)))
    ∙ edge-keeps kind l n at step next b j low (λ k p. h k (omega arith))
