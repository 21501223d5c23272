-- The neighbour record as 81 bytes: ten marks of 0 or 1, then the pixels.
--
--        at       0                                  4               7
--        mark     Y top-left above above-right left  U .. above left V .. above left
--
--        at      10 .. 30     31 .. 46   47 .. 55  56 .. 63   64 .. 72  73 .. 80
--        pixels  Y row of 21  left       U row     left       V row     left
use Rattle.std.specs.Prelude.{ℕ, ◌+◌, Bool, List, [], ◌∷◌, ◌++◌, eqb, get_or}
use Rattle.lists.specs.Lists.{pick, part, within}
use Rattle.macroblock.specs.declared.neighbors.LumaEdges.{LumaEdges}
use Rattle.macroblock.specs.declared.neighbors.ChromaEdges.{ChromaEdges}
use Rattle.macroblock.specs.declared.neighbors.MbNeighbors.{MbNeighbors}

-- a mark is there where its byte is 1
abbrev pub marked : List ℕ → ℕ → Bool
marked s k = eqb (get_or s k 0) 1

-- every mark is 0 or 1
unfoldable pub marks_known : List ℕ → Bool
marks_known s = within 1 10 s

-- ---- the record of 81 bytes
unfoldable pub luma_of : List ℕ → LumaEdges
luma_of s =
    record {
      row = part 21 s 10;
      topleft_there = marked s 0;
      above_there = marked s 1;
      above_right_there = marked s 2;
      left = part 16 s 31;
      left_there = marked s 3;
    }

-- the marks from byte `mark` on, the pixels from byte `at` on
unfoldable pub chroma_of : List ℕ → ℕ → ℕ → ChromaEdges
chroma_of s mark at =
    record {
      row = part 9 s at;
      topleft_there = marked s mark;
      above_there = marked s (mark + 1);
      left = part 8 s (at + 9);
      left_there = marked s (mark + 2);
    }

unfoldable pub record_of : List ℕ → MbNeighbors
record_of s = record { y = luma_of s; u = chroma_of s 4 47; v = chroma_of s 7 64 }

-- ---- the 81 bytes of a record
abbrev pub mark_of : Bool → ℕ
mark_of there = pick there 1 0

unfoldable pub luma_marks : LumaEdges → List ℕ
luma_marks e = mark_of e.topleft_there ∷ mark_of e.above_there ∷ mark_of e.above_right_there ∷ mark_of e.left_there ∷ []

unfoldable pub chroma_marks : ChromaEdges → List ℕ
chroma_marks e = mark_of e.topleft_there ∷ mark_of e.above_there ∷ mark_of e.left_there ∷ []

unfoldable pub luma_bytes : LumaEdges → List ℕ
luma_bytes e = part 21 e.row 0 ++ part 16 e.left 0

unfoldable pub chroma_bytes : ChromaEdges → List ℕ
chroma_bytes e = part 9 e.row 0 ++ part 8 e.left 0

unfoldable pub bytes_of : MbNeighbors → List ℕ
bytes_of n =
    luma_marks n.y ++ (chroma_marks n.u ++ (chroma_marks n.v ++ (luma_bytes n.y ++ (chroma_bytes n.u ++ chroma_bytes n.v))))
