-- Reading the bytes of a record gives the record back, where its rows and columns have their lengths. Assumes nothing.
use mathlib.Core.Bool.{Bool, true, false}
use mathlib.Core.Path.{◌≡◌, refl}
use lib.Dec.{eqb}
use lib.ListN.{length}
use Rattle.lists.specs.Lists.{table, part}
use Rattle.macroblock.specs.declared.neighbors.MbNeighbors.{MbNeighbors}
use Rattle.record_bytes.specs.Bytes.{mark_of, luma_marks, chroma_marks, luma_bytes, chroma_bytes, luma_of, chroma_of, record_of, bytes_of}
use Rattle.record_bytes.proofs.Laid.{whole_part}

-- rows and columns have their lengths
pub record Sized (n : MbNeighbors) : Type 0 where
  pub row : length n.y.row ≡ 21
  pub left : length n.y.left ≡ 16
  pub u-row : length n.u.row ≡ 9
  pub u-left : length n.u.left ≡ 8
  pub v-row : length n.v.row ≡ 9
  pub v-left : length n.v.left ≡ 8

-- a mark's byte says the mark
mark-back : (b : Bool) → eqb (mark_of b) 1 ≡ b
mark-back true = refl
mark-back false = refl

pub read_back : (n : MbNeighbors) → Sized n → record_of (bytes_of n) ≡ n
unfolding table part luma_marks chroma_marks luma_bytes chroma_bytes luma_of chroma_of record_of bytes_of
read_back n z = λ i. record {
  y =
      record {
        row = whole_part 21 n.y.row z.row i;
        topleft_there = mark-back n.y.topleft_there i;
        above_there = mark-back n.y.above_there i;
        above_right_there = mark-back n.y.above_right_there i;
        left = whole_part 16 n.y.left z.left i;
        left_there = mark-back n.y.left_there i;
      };
  u =
      record {
        row = whole_part 9 n.u.row z.u-row i;
        topleft_there = mark-back n.u.topleft_there i;
        above_there = mark-back n.u.above_there i;
        left = whole_part 8 n.u.left z.u-left i;
        left_there = mark-back n.u.left_there i;
      };
  v =
      record {
        row = whole_part 9 n.v.row z.v-row i;
        topleft_there = mark-back n.v.topleft_there i;
        above_there = mark-back n.v.above_there i;
        left = whole_part 8 n.v.left z.v-left i;
        left_there = mark-back n.v.left_there i;
      };
}
