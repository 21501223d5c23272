-- What the filter calls answer: 7 for a size outside 1 to 1,024 macroblocks a side, then 1 for a slice of another length, then 11 for a level above 63 or
-- a sharpness above 7, then 8 for a kind that is neither 0, the normal filter, nor 1, the simple one; the planes then stay as found. Else 0, and the planes filtered.
use Rattle.std.specs.Prelude.{ℕ, ◌*◌, Bool, false, List, leb, ltb, eqb, length}
use Rattle.lists.specs.Lists.{pick, both}
use Rattle.macroblock.specs.Reply.{done, wrong_length, outside_picture, unknown_byte, outside_levels}
use Rattle.rfc6386.specs.Picture.{place_ok, sizes_ok}
use Rattle.rfc6386.specs.LoopFilter.{luma_of, chroma_of}
use Rattle.loop_filter.specs.Picture.{level_of, levels_ok}

-- 256, 64 and 64 bytes a macroblock in the planes, and a byte a macroblock
abbrev pub fits : ℕ → ℕ → ℕ → ℕ → ℕ → ℕ → ℕ → Bool
fits cols rows y u v inner levels = both (sizes_ok y u v cols rows) (both (eqb inner (cols * rows)) (eqb levels (cols * rows)))

-- the number of the refusal, or 0
unfoldable pub refusal_of : ℕ → ℕ → ℕ → ℕ → ℕ → ℕ → ℕ → Bool → ℕ → ℕ → ℕ
refusal_of cols rows y u v inner levels low sharp kind =
    pick (place_ok cols rows 0 0)
    (pick (fits cols rows y u v inner levels) (pick (both low (leb sharp 7)) (pick (ltb kind 2) done unknown_byte) outside_levels) wrong_length)
    outside_picture

abbrev pub Planes : Type 0
Planes = List ℕ × List ℕ × List ℕ

-- the three planes filtered
unfoldable pub filtered_planes : Bool → ℕ → (ℕ → ℕ) → List ℕ → ℕ → ℕ → Planes → Planes
filtered_planes simple sharp level inner cols rows p =
    (luma_of simple sharp level inner cols rows p.0, chroma_of simple sharp level inner cols rows p.1, chroma_of simple sharp level inner cols rows p.2)

-- the reply and the planes
abbrev pub Answer : Type 0
Answer = ℕ × List ℕ × List ℕ × List ℕ

abbrev pub told : ℕ → Planes → Answer
told number p = (number, p.0, p.1, p.2)

unfoldable pub answered : ℕ → Planes → Planes → Answer
answered number filtered found = told number (pick (eqb number done) filtered found)

-- with one level for the picture
unfoldable pub filter_answer : ℕ → ℕ → ℕ → ℕ → ℕ → List ℕ → List ℕ → List ℕ → List ℕ → Answer
filter_answer cols rows kind level sharp inner y u v =
    answered
    (refusal_of cols rows (length y) (length u) (length v) (length inner) (length inner) (leb level 63) sharp kind)
    (filtered_planes (eqb kind 1) sharp (λ k. level) inner cols rows (y, u, v))
    (y, u, v)

-- with a level for each macroblock
unfoldable pub levels_answer : ℕ → ℕ → ℕ → ℕ → List ℕ → List ℕ → List ℕ → List ℕ → List ℕ → Answer
levels_answer cols rows kind sharp levels inner y u v =
    answered
    (refusal_of cols rows (length y) (length u) (length v) (length inner) (length levels) (levels_ok levels) sharp kind)
    (filtered_planes (eqb kind 1) sharp (level_of false 0 levels) inner cols rows (y, u, v))
    (y, u, v)
