-- The picture that is filtered: its planes, a byte a macroblock for its inner edges, its levels.
use Rattle.std.specs.Prelude.{ℕ, ◌*◌, ◌<◌, ◌≤◌, ◌≡◌, Bool, true, List, leb, length, get_or}
use Rattle.lists.specs.Lists.{turns, pick, both}
use Rattle.loop_filter.specs.declared.Levels.{Levels}
use Rattle.loop_filter.specs.declared.Levels.TheVariants.{One, Each}

-- the level of macroblock k: one for the picture, or a byte for each
unfoldable pub level_of : Bool → ℕ → List ℕ → ℕ → ℕ
level_of one level levels = λ k. pick one level (get_or levels k 0)

-- the same of the code's levels; that they have one for macroblock k, and for n macroblocks
abbrev pub level_in : Levels → ℕ → ℕ
level_in (One level) = λ k. level
level_in (Each levels) = λ k. get_or levels.now k 0

abbrev pub HasLevel : Levels → ℕ → Type 0
HasLevel (One level) k = Unit {0}
HasLevel (Each levels) k = k < length levels.now

abbrev pub HasLevels : Levels → ℕ → Type 0
HasLevels (One level) n = Unit {0}
HasLevels (Each levels) n = length levels.now ≡ n

-- each level is at most 63
abbrev pub level_turn : List ℕ → ℕ → Bool → Bool
level_turn levels k ok = both ok (leb (get_or levels k 0) 63)

unfoldable pub levels_ok : List ℕ → Bool
levels_ok levels = turns (length levels) (level_turn levels) true

-- the planes, and how each macroblock is filtered: `level k` is the level of macroblock k
pub record Ready (cols rows sharp : ℕ) (level : ℕ → ℕ) (inner y u v : List ℕ) : Type 0 where
  pub narrow : cols ≤ 1024
  pub short : rows ≤ 1024
  pub luma : length y ≡ 256 * (cols * rows)
  pub chroma_u : length u ≡ 64 * (cols * rows)
  pub chroma_v : length v ≡ 64 * (cols * rows)
  pub bytes : length inner ≡ cols * rows
  pub low : (k : ℕ) → k < cols * rows → level k ≤ 63
  pub sharpness : sharp ≤ 7
