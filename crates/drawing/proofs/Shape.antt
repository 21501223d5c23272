-- What the answer of every macroblock has: 256, 64 and 64 pixels, a reply of at most 8, and at most 384 sums counted. Assumes nothing.
use Prim.Native.Nat.{ℕ, ◌*◌, ◌≤◌}
use mathlib.Core.Path.{◌≡◌, refl, ◌∙◌}
use mathlib.Core.Bool.{Bool, true, false}
use mathlib.Core.List.{List, ◌++◌}
use native.Mathlib.Omega.{arith}
use lib.Dec.{eqb, lit≤}
use lib.IntN.{ℤ}
use lib.ListN.{length, drop, length-append}
use Rattle.lists.specs.Lists.{pick}
use Rattle.lists.proofs.Rows.{rows-length}
use Rattle.macroblock.specs.Reply.{wrong_length, b_pred, no_sub_modes, unknown_byte}
use Rattle.macroblock.specs.declared.modes.IntraYMode.{IntraYMode}
use Rattle.macroblock.specs.declared.modes.IntraUvMode.{IntraUvMode}
use Rattle.macroblock.specs.declared.modes.IntraBmode.{IntraBmode}
use Rattle.macroblock.specs.declared.modes.MbModes.{MbModes}
use Rattle.macroblock.specs.declared.neighbors.ChromaEdges.{ChromaEdges}
use Rattle.macroblock.specs.declared.neighbors.MbNeighbors.{MbNeighbors}
use Rattle.record_bytes.specs.Bytes.{marks_known, record_of}
use Rattle.rfc6386.specs.Edges.{is_b}
use Rattle.rfc6386.specs.Walk.{added_blocks, plane, y_prediction, uv_prediction, y_whole, y_parts, uv_plane, luma_of}
use Rattle.rfc6386.proofs.Edges.{y-length, uv-length}
use Rattle.clipping.proofs.Bounds.{y-whole-≤, uv-≤, y-parts-≤}
use Rattle.reconstruct.specs.Answers.{MbAnswer, refusal, whole_of, parts_of, non_b, walk_b}
use Rattle.drawing.specs.Drawn.{planes_of, modes_known, modes_of, sub_modes_of, subs_known, drawn_b, drawn_in, drawn_with, drawn, drawn_bytes}

pub record Shape (r : MbAnswer) : Type 0 where
  pub luma : length r.y ≡ 256
  pub first : length r.u ≡ 64
  pub second : length r.v ≡ 64
  pub number : r.reply ≤ 8
  pub counted : r.clipped ≤ 384

pub planes-length : {r : MbAnswer} → Shape r → length (planes_of r) ≡ 384
unfolding planes_of
planes-length {r} s =
    length-append r.y (r.u ++ r.v) ∙ (let e = length-append r.u r.v in omega (arith, e, s.luma, s.first, s.second))

-- ---- the planes
plane-length : (n : ℕ) (skip : Bool) (p : List ℕ) (block : ℕ → ℕ → ℤ) → length p ≡ n * n → length (plane n skip p block) ≡ n * n
unfolding plane added_blocks
plane-length n true p block e = e
plane-length n false p block e = rows-length n n _

module _ (skip : Bool) (n : MbNeighbors) (c : List ℤ) where
  y-whole : (mode : IntraYMode) → length (y_whole mode skip n.y c) ≡ 256
  unfolding y_whole y_prediction
  y-whole mode = plane-length 16 skip (y_prediction mode n.y) _ (y-length _ _ _ _ mode _)

  uv-plane : (e : ChromaEdges) (mode : IntraUvMode) (base : ℕ) → length (uv_plane mode skip e c base) ≡ 64
  unfolding uv_plane uv_prediction
  uv-plane e mode base = plane-length 8 skip (uv_prediction mode e) _ (uv-length _ _ _ _ mode _)

  y-parts : (modes : List IntraBmode) → length (y_parts modes skip n.y c) ≡ 256
  unfolding y_parts luma_of
  y-parts modes = rows-length 16 16 _

  whole-shape : (y : IntraYMode) (uv : IntraUvMode) → Shape (whole_of y uv skip n c)
  unfolding whole_of
  whole-shape y uv =
      record {
        luma = y-whole y;
        first = uv-plane n.u uv 272;
        second = uv-plane n.v uv 336;
        number = lit≤ tt;
        counted = omega (arith, y-whole-≤ y skip n.y c, uv-≤ uv skip n.u c 272, uv-≤ uv skip n.v c 336);
      }

  parts-shape : (modes : List IntraBmode) (uv : IntraUvMode) → Shape (parts_of modes uv skip n c)
  unfolding parts_of
  parts-shape modes uv =
      record {
        luma = y-parts modes;
        first = uv-plane n.u uv 256;
        second = uv-plane n.v uv 320;
        number = lit≤ tt;
        counted = omega (arith, y-parts-≤ modes skip n.y c, uv-≤ uv skip n.u c 256, uv-≤ uv skip n.v c 320);
      }

-- ---- the answers
refusal-shape : (k : ℕ) → k ≤ 8 → Shape (refusal k)
unfolding refusal
refusal-shape k h =
    record {
      luma = refl;
      first = refl;
      second = refl;
      number = h;
      counted = lit≤ tt;
    }

pick-shape : (b : Bool) {x y : MbAnswer} → Shape x → Shape y → Shape (pick b x y)
pick-shape true p q = p
pick-shape false p q = q

module _ (m : MbModes) (subs : List ℕ) (there : Bool) (n : MbNeighbors) (c : List ℤ) where
  non-b-shape : Shape (non_b m n c)
  unfolding non_b
  non-b-shape =
      pick-shape (is_b m.y) (refusal-shape b_pred (lit≤ tt))
      (pick-shape (eqb (length c) 400) (whole-shape m.skip n c m.y m.uv) (refusal-shape wrong_length (lit≤ tt)))

  walk-b-shape : (modes : List IntraBmode) (d : List ℤ) → Shape (walk_b modes there m n d)
  unfolding walk_b
  walk-b-shape modes d =
      pick-shape there
      (pick-shape (eqb (length d) 384) (parts-shape m.skip n d modes m.uv) (refusal-shape wrong_length (lit≤ tt)))
      (refusal-shape no_sub_modes (lit≤ tt))

  in-shape : Shape (drawn_in m subs there n c)
  unfolding drawn_in drawn_b
  in-shape =
      pick-shape (is_b m.y)
      (pick-shape (subs_known subs there) (walk-b-shape (sub_modes_of subs) (drop 16 c)) (refusal-shape unknown_byte (lit≤ tt)))
      non-b-shape

  pub with-shape : Shape (drawn_with m subs there n c)
  unfolding drawn_with
  with-shape = pick-shape (eqb (length c) 400) in-shape (refusal-shape wrong_length (lit≤ tt))

module _ (luma chroma skip : ℕ) (subs : List ℕ) (there : Bool) (n : MbNeighbors) (c : List ℤ) where
  drawn-shape : Shape (drawn luma chroma skip subs there n c)
  unfolding drawn
  drawn-shape =
      pick-shape (eqb (length c) 400)
      (pick-shape (modes_known luma chroma skip) (in-shape (modes_of luma chroma skip) subs there n c) (refusal-shape unknown_byte (lit≤ tt)))
      (refusal-shape wrong_length (lit≤ tt))

pub bytes-shape : (luma chroma skip : ℕ) (subs : List ℕ) (there : Bool) («record» : List ℕ) (c : List ℤ)
    → Shape (drawn_bytes luma chroma skip subs there «record» c)
unfolding drawn_bytes
bytes-shape luma chroma skip subs there «record» c =
    pick-shape (marks_known «record») (drawn-shape luma chroma skip subs there (record_of «record») c) (refusal-shape unknown_byte (lit≤ tt))
