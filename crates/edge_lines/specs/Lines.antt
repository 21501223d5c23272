-- Bytes moved between a plane and lines of sixteen.
use Rattle.std.specs.Prelude.{ℕ, ◌+◌, ◌*◌, ◌/◌, ◌%◌, ◌<◌, ◌≤◌, ◌≡◌, List, length, get_or, set, replicate}
use Rattle.lists.specs.Lists.{turns, table}
use Rattle.macroblock.specs.declared.filter.Across.{Across}
use Rattle.macroblock.specs.declared.filter.Limits.{Limits}
use Rattle.macroblock.specs.declared.filter.Kind.{Kind}
use Rattle.rfc6386.specs.LoopFilter.{filtered}

-- what calls of a filter may answer is what the kind's filter makes of the pixels
pub record Filters (kind : Kind) (answers : Limits → Across → Across → Type 0) : Type 0 where
  pub is : (l : Limits) (x y : Across) → answers l x y → y ≡ filtered kind l x

-- all eight pixels across an edge lie in the plane
pub record Reaches (b : List ℕ) (i step : ℕ) : Type 0 where
  pub low : 4 * step ≤ i
  pub high : i + 3 * step < length b

-- n bytes of p from `at` on
abbrev pub cut : ℕ → ℕ → List ℕ → List ℕ
cut n at p = table n (λ k. get_or p (at + k) 0)

-- the first n bytes of q put into p from `at` on
abbrev pub put_turn : ℕ → List ℕ → ℕ → List ℕ → List ℕ
put_turn at q k p = set p (at + k) (get_or q k 0)

unfoldable pub pasted : ℕ → ℕ → List ℕ → List ℕ → List ℕ
pasted n at q p = turns n (put_turn at q) p

-- h rows of w bytes, `stride` apart, lie in p from `at` on
pub record Fits (w h at stride : ℕ) (p : List ℕ) : Type 0 where
  pub inside : (k : ℕ) → k < h → at + k * stride + w ≤ length p

-- h rows of w bytes of o, from `from` on and `step` apart, put into p from `at` on and `stride` apart
abbrev pub row_turn : ℕ → ℕ → ℕ → ℕ → ℕ → List ℕ → ℕ → List ℕ → List ℕ
row_turn w at stride from step o k p = pasted w (at + k * stride) (cut w (from + k * step) o) p

unfoldable pub rows_put : ℕ → ℕ → ℕ → ℕ → ℕ → ℕ → List ℕ → List ℕ → List ℕ
rows_put w h at stride from step o p = turns h (row_turn w at stride from step o) p

-- nothing yet: 8 lines, 24 lines
unfoldable pub zeros : ℕ → List ℕ
zeros n = replicate n 0

-- the two halves of b, byte by byte in turn
abbrev pub zip_turn : List ℕ → ℕ → List ℕ → List ℕ
zip_turn b k o = set (set o (2 * k) (get_or b k 0)) (2 * k + 1) (get_or b (64 + k) 0)

-- byte i of a list of 128 after it
pub record Zipped (b r : List ℕ) : Type 0 where
  pub is : (i : ℕ) → i < 128 → get_or r i 0 ≡ get_or b (i / 2 + 64 * (i % 2)) 0

-- r has line d, lane k where b has row k, column d
pub record Flat (b r : List ℕ) : Type 0 where
  pub is : (d k : ℕ) → d < 8 → k < 16 → get_or r (16 * d + k) 0 ≡ get_or b (8 * k + d) 0
