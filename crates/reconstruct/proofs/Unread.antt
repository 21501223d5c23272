-- What changes no answer: the bytes of an absent part of an edge, the sub-block modes where they are not marked as there, the coefficients of a skipped
-- macroblock, and a Y block's own first coefficient in the walker of the 16x16 modes. Assumes nothing.
use mathlib.Core.Path.{◌≡◌, refl}
use mathlib.Core.Bool.{Bool, true, false}
use mathlib.Core.List.{List}
use lib.Dec.{lit≤}
use lib.IntN.{ℤ}
use lib.ListN.{length}
use Rattle.macroblock.specs.declared.modes.IntraBmode.{IntraBmode}
use Rattle.macroblock.specs.declared.modes.MbModes.{MbModes}
use Rattle.macroblock.specs.declared.neighbors.MbNeighbors.{MbNeighbors}
use Rattle.rfc6386.proofs.Absent.{SameEdges, y_whole-same, y_parts-same, uv_plane-same}
use Rattle.rfc6386.proofs.Unused.{SameButDc, y_whole-skipped, uv_plane-skipped, y_parts-skipped, y_whole-own-dc, uv_plane-own-dc}
use Rattle.clipping.proofs.Skipped.{macroblock-skipped, macroblock-B-skipped}
use Rattle.reconstruct.proofs.Counts.{y-same, uv-same, parts_same, y-own-dc, uv-own-dc}
use Rattle.reconstruct.specs.Answers.{whole_of, parts_of, non_b, walk_b}

-- ---- the bytes of an absent part of an edge
module _ {m n : MbNeighbors} (e : SameEdges m n) (modes : MbModes) (c : List ℤ) where
  pub non_b-absent : non_b modes m c ≡ non_b modes n c
  unfolding non_b whole_of
  non_b-absent =
      rw (
        y_whole-same e.y modes.y modes.skip c,
        uv_plane-same e.u modes.uv modes.skip c 272,
        uv_plane-same e.v modes.uv modes.skip c 336,
        y-same e.y modes.skip c modes.y,
        uv-same e.u modes.skip c modes.uv 272,
        uv-same e.v modes.skip c modes.uv 336,
      )

  pub walk_b-absent : (subs : List IntraBmode) (there : Bool) → walk_b subs there modes m c ≡ walk_b subs there modes n c
  unfolding walk_b parts_of
  walk_b-absent subs there =
      rw (
        y_parts-same e.y subs modes.skip c,
        uv_plane-same e.u modes.uv modes.skip c 256,
        uv_plane-same e.v modes.uv modes.skip c 320,
        parts_same e.y modes.skip c subs,
        uv-same e.u modes.skip c modes.uv 256,
        uv-same e.v modes.skip c modes.uv 320,
      )

-- ---- the sub-block modes where they are not there
pub walk_b-unmarked : (subs others : List IntraBmode) (m : MbModes) (n : MbNeighbors) (c : List ℤ) → walk_b subs false m n c ≡ walk_b others false m n c
unfolding walk_b
walk_b-unmarked subs others m n c = refl

-- ---- the luma mode, in the walker of mode B
pub walk_b-luma : (subs : List IntraBmode) (there : Bool) (m k : MbModes) (n : MbNeighbors) (c : List ℤ) → m.uv ≡ k.uv → m.skip ≡ k.skip
    → walk_b subs there m n c ≡ walk_b subs there k n c
unfolding walk_b
walk_b-luma subs there m k n c e f = rw (e, f)

-- ---- the coefficients of a skipped macroblock, of which only the number is looked at
module _ (m : MbModes) (n : MbNeighbors) (c d : List ℤ) (skipped : m.skip ≡ true) (same : length c ≡ length d) where
  pub non_b-skipped-coefficients : non_b m n c ≡ non_b m n d
  unfolding non_b whole_of
  non_b-skipped-coefficients =
      rw (
        skipped,
        same,
        y_whole-skipped n.y c m.y,
        y_whole-skipped n.y d m.y,
        uv_plane-skipped n.u c m.uv 272,
        uv_plane-skipped n.u d m.uv 272,
        uv_plane-skipped n.v c m.uv 336,
        uv_plane-skipped n.v d m.uv 336,
        macroblock-skipped m.uv n c 272 336 m.y,
        macroblock-skipped m.uv n d 272 336 m.y,
      )

  pub walk_b-skipped-coefficients : (subs : List IntraBmode) (there : Bool) → walk_b subs there m n c ≡ walk_b subs there m n d
  unfolding walk_b parts_of
  walk_b-skipped-coefficients subs there =
      rw (
        skipped,
        same,
        y_parts-skipped n.y c subs d,
        uv_plane-skipped n.u c m.uv 256,
        uv_plane-skipped n.u d m.uv 256,
        uv_plane-skipped n.v c m.uv 320,
        uv_plane-skipped n.v d m.uv 320,
        macroblock-B-skipped m.uv n c 256 320 subs,
        macroblock-B-skipped m.uv n d 256 320 subs,
      )

-- ---- the own first coefficient of a Y block, in whose place the Y2 block's stands
pub non_b-own-dc : (m : MbModes) (n : MbNeighbors) (c d : List ℤ) → length c ≡ length d → SameButDc c d → non_b m n c ≡ non_b m n d
unfolding non_b whole_of
non_b-own-dc m n c d same e =
    rw (
      same,
      y_whole-own-dc c d e n.y m.skip m.y,
      uv_plane-own-dc c d e n.u m.skip m.uv 272 (lit≤ tt),
      uv_plane-own-dc c d e n.v m.skip m.uv 336 (lit≤ tt),
      y-own-dc c d e n.y m.skip m.y,
      uv-own-dc c d e n.u m.skip m.uv 272 (lit≤ tt),
      uv-own-dc c d e n.v m.skip m.uv 336 (lit≤ tt),
    )
