-- The chroma of a macroblock depends on its chroma coefficients only, in every luma mode: from 272 on of its 400. Assumes nothing.
use Prim.Native.Nat.{ℕ, ◌+◌, ◌≤◌}
use mathlib.Core.Path.{◌≡◌, refl, sym, ◌∙◌}
use mathlib.Core.Bool.{Bool, true, false}
use mathlib.Core.List.{List}
use native.Mathlib.Omega.{arith}
use lib.Dec.{eqb}
use lib.IntN.{ℤ, pos}
use lib.ListN.{length, get_or, drop, length-drop}
use lib.Seq.{get_or-drop}
use Rattle.lists.specs.Lists.{pick}
use Rattle.macroblock.specs.Reply.{wrong_length, b_pred, no_sub_modes, unknown_byte}
use Rattle.macroblock.specs.declared.modes.IntraUvMode.{IntraUvMode}
use Rattle.macroblock.specs.declared.modes.IntraBmode.{IntraBmode}
use Rattle.macroblock.specs.declared.modes.MbModes.{MbModes}
use Rattle.macroblock.specs.declared.neighbors.ChromaEdges.{ChromaEdges}
use Rattle.macroblock.specs.declared.neighbors.MbNeighbors.{MbNeighbors}
use Rattle.rfc6386.specs.Edges.{is_b}
use Rattle.rfc6386.specs.Walk.{block_at, uv_prediction, uv_plane}
use Rattle.rfc6386.proofs.Planes.{plane-ext}
use Rattle.reconstruct.specs.Answers.{MbAnswer, refusal, whole_of, parts_of, non_b, walk_b}
use Rattle.drawing.specs.Drawn.{modes_known, modes_of, sub_modes_of, subs_known, drawn_b, drawn_in, drawn}
use Rattle.still_laws.specs.Words.{Plane, in_y, in_u, in_v, pixels_of}

-- one of two that are the same in the plane p
chosen : (p : Plane) (b : Bool) (x y z t : MbAnswer) → pixels_of p x ≡ pixels_of p y → pixels_of p z ≡ pixels_of p t → pixels_of p (pick b x z) ≡ pixels_of p (pick b y t)
chosen p true x y z t r s = r
chosen p false x y z t r s = s

uv-same : (uv : IntraUvMode) (skip : Bool) (e : ChromaEdges) (c d : List ℤ) (from : ℕ) → ((j : ℕ) → from ≤ j → get_or c j (pos 0) ≡ get_or d j (pos 0))
    → (base : ℕ) → from ≤ base → uv_plane uv skip e c base ≡ uv_plane uv skip e d base
unfolding uv_plane
uv-same uv skip e c d from same base l = plane-ext 8 skip (uv_prediction uv e) (block_at c base) (block_at d base) (λ r s k _ _ _. same _ (omega arith))

-- two lists of one length that agree from 272 on, without their first 16
module _ (c d : List ℤ) (long : length c ≡ length d) (same : (j : ℕ) → 272 ≤ j → get_or c j (pos 0) ≡ get_or d j (pos 0)) where
  same_rest : (j : ℕ) → 256 ≤ j → get_or (drop 16 c) j (pos 0) ≡ get_or (drop 16 d) j (pos 0)
  same_rest j l = get_or-drop 16 c j (pos 0) ∙ same (16 + j) (omega arith) ∙ sym (get_or-drop 16 d j (pos 0))

  long_rest : length (drop 16 c) ≡ length (drop 16 d)
  long_rest = simp (length-drop, long)

module _ (n : MbNeighbors) (c d : List ℤ) where
  whole_same : (p : Plane) → (p ≡ in_y → ⊥) → ((j : ℕ) → 272 ≤ j → get_or c j (pos 0) ≡ get_or d j (pos 0)) → (m : MbModes)
      → pixels_of p (whole_of m.y m.uv m.skip n c) ≡ pixels_of p (whole_of m.y m.uv m.skip n d)
  unfolding whole_of
  whole_same in_y q same m = absurd (q refl)
  whole_same in_u q same m = uv-same m.uv m.skip n.u c d 272 same 272 (omega arith)
  whole_same in_v q same m = uv-same m.uv m.skip n.v c d 272 same 336 (omega arith)

  parts_same : (p : Plane) → (p ≡ in_y → ⊥) → ((j : ℕ) → 256 ≤ j → get_or c j (pos 0) ≡ get_or d j (pos 0)) → (subs : List IntraBmode) (m : MbModes)
      → pixels_of p (parts_of subs m.uv m.skip n c) ≡ pixels_of p (parts_of subs m.uv m.skip n d)
  unfolding parts_of
  parts_same in_y q same subs m = absurd (q refl)
  parts_same in_u q same subs m = uv-same m.uv m.skip n.u c d 256 same 256 (omega arith)
  parts_same in_v q same subs m = uv-same m.uv m.skip n.v c d 256 same 320 (omega arith)

  non_b-same : (p : Plane) → (p ≡ in_y → ⊥) → length c ≡ length d → ((j : ℕ) → 272 ≤ j → get_or c j (pos 0) ≡ get_or d j (pos 0)) → (m : MbModes)
      → pixels_of p (non_b m n c) ≡ pixels_of p (non_b m n d)
  unfolding non_b
  non_b-same p q long same m =
      rw long
      (chosen p (is_b m.y) (refusal b_pred) (refusal b_pred) _ _ refl
      (chosen p (eqb (length d) 400) (whole_of m.y m.uv m.skip n c) (whole_of m.y m.uv m.skip n d) (refusal wrong_length) (refusal wrong_length)
      (whole_same p q same m) refl))

  walk_b-same : (p : Plane) → (p ≡ in_y → ⊥) → length c ≡ length d → ((j : ℕ) → 256 ≤ j → get_or c j (pos 0) ≡ get_or d j (pos 0)) → (subs : List IntraBmode) (there : Bool) (m : MbModes)
      → pixels_of p (walk_b subs there m n c) ≡ pixels_of p (walk_b subs there m n d)
  unfolding walk_b
  walk_b-same p q long same subs there m =
      rw long
      (chosen p there _ _ (refusal no_sub_modes) (refusal no_sub_modes)
      (chosen p (eqb (length d) 384) (parts_of subs m.uv m.skip n c) (parts_of subs m.uv m.skip n d) (refusal wrong_length) (refusal wrong_length)
      (parts_same p q same subs m) refl)
      refl)

pub drawn-chroma : (p : Plane) → (p ≡ in_y → ⊥) → (n : MbNeighbors) (c d : List ℤ) → length c ≡ length d
    → ((j : ℕ) → 272 ≤ j → get_or c j (pos 0) ≡ get_or d j (pos 0)) → (luma chroma skip : ℕ) (subs : List ℕ) (there : Bool)
    → pixels_of p (drawn luma chroma skip subs there n c) ≡ pixels_of p (drawn luma chroma skip subs there n d)
unfolding drawn drawn_in drawn_b
drawn-chroma p q n c d long same luma chroma skip subs there =
    let m : MbModes = modes_of luma chroma skip in
    rw long
    (chosen p (eqb (length d) 400) _ _ (refusal wrong_length) (refusal wrong_length)
    (chosen p (modes_known luma chroma skip) _ _ (refusal unknown_byte) (refusal unknown_byte)
    (chosen p (is_b m.y) _ _ (non_b m n c) (non_b m n d)
    (chosen p (subs_known subs there) (walk_b (sub_modes_of subs) there m n (drop 16 c)) (walk_b (sub_modes_of subs) there m n (drop 16 d)) (refusal unknown_byte) (refusal unknown_byte)
    (walk_b-same n (drop 16 c) (drop 16 d) p q (long_rest c d long same) (same_rest c d long same) (sub_modes_of subs) there m) refl)
    (non_b-same n c d p q long same m))
    refl)
    refl)
