-- The steps by which the code lays a record's bytes down. Nothing that a reader must believe: `bytes_of` says what they come to.
use Rattle.std.specs.Prelude.{ℕ, ◌+◌, List, ◌++◌, set, take, drop}
use Rattle.lists.specs.Lists.{part}
use Rattle.macroblock.specs.declared.neighbors.LumaEdges.{LumaEdges}
use Rattle.macroblock.specs.declared.neighbors.ChromaEdges.{ChromaEdges}
use Rattle.record_bytes.specs.Bytes.{mark_of}

-- n bytes of s, stored from `at` on
unfoldable pub laid_at : ℕ → ℕ → List ℕ → List ℕ → List ℕ
laid_at n at s b = take at b ++ (part n s 0 ++ drop n (drop at b))

unfoldable pub luma_laid : LumaEdges → List ℕ → List ℕ
luma_laid e b =
    laid_at 16 31 e.left
    (laid_at 21 10 e.row
    (set (set (set (set b 0 (mark_of e.topleft_there)) 1 (mark_of e.above_there)) 2 (mark_of e.above_right_there)) 3 (mark_of e.left_there)))

unfoldable pub chroma_laid : ℕ → ℕ → ChromaEdges → List ℕ → List ℕ
chroma_laid mark at e b =
    laid_at 8 (at + 9) e.left
    (laid_at 9 at e.row (set (set (set b mark (mark_of e.topleft_there)) (mark + 1) (mark_of e.above_there)) (mark + 2) (mark_of e.left_there)))
