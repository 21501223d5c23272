-- The answers of the two walkers: a reply and three planes. The planes are those of RFC 6386, `Walk`; beside a refusal they are 0.
use Rattle.std.specs.Prelude.{ℕ, ◌+◌, Bool, List, eqb, ℤ, length, replicate, Result, Ok, Err}
use Rattle.lists.specs.Lists.{pick}
use Rattle.macroblock.specs.Reply.{done, wrong_length, b_pred, no_sub_modes, number}
use Rattle.macroblock.specs.declared.reply.Refusal.{Refusal}
use Rattle.macroblock.specs.declared.modes.IntraYMode.{IntraYMode}
use Rattle.macroblock.specs.declared.modes.IntraUvMode.{IntraUvMode}
use Rattle.macroblock.specs.declared.modes.IntraBmode.{IntraBmode}
use Rattle.macroblock.specs.declared.modes.MbModes.{MbModes}
use Rattle.macroblock.specs.declared.neighbors.MbNeighbors.{MbNeighbors}
use Rattle.rfc6386.specs.Edges.{is_b}
use Rattle.rfc6386.specs.Walk.{y_whole, y_parts, uv_plane}
use Rattle.clipping.specs.Clipped.{y_whole_clipped, y_parts_clipped, uv_clipped}
use Rattle.reconstruct.specs.declared.ReconstructedMb.{ReconstructedMb}

pub record MbAnswer : Type 0 where
  pub reply : ℕ
  pub y : List ℕ
  pub u : List ℕ
  pub v : List ℕ
  pub clipped : ℕ

-- the number, and zero pixels
unfoldable pub refusal : ℕ → MbAnswer
refusal k = record { reply = k; y = replicate 256 0; u = replicate 64 0; v = replicate 64 0; clipped = 0 }

-- what the code answers, as such an answer
abbrev pub drawn : ReconstructedMb → MbAnswer
drawn m = record { reply = done; y = m.y; u = m.u; v = m.v; clipped = m.clipped }

abbrev pub told : Result ReconstructedMb Refusal → MbAnswer
told (Ok m) = drawn m
told (Err e) = refusal (number e)

-- a luma plane with its count, and the chroma whose coefficients begin at `base`: U's, then V's 64 later
unfoldable pub macroblock_of : List ℕ × ℕ → IntraUvMode → Bool → MbNeighbors → List ℤ → ℕ → MbAnswer
macroblock_of luma uv skip n coeffs base =
    record {
      reply = done;
      y = luma.0;
      u = uv_plane uv skip n.u coeffs base;
      v = uv_plane uv skip n.v coeffs (base + 64);
      clipped = luma.1 + uv_clipped uv skip n.u coeffs base + uv_clipped uv skip n.v coeffs (base + 64);
    }

-- ---- the four 16x16 luma modes: 400 coefficients, U's from 272 on and V's from 336 on
unfoldable pub whole_of : IntraYMode → IntraUvMode → Bool → MbNeighbors → List ℤ → MbAnswer
whole_of y uv skip n coeffs =
    record {
      reply = done;
      y = y_whole y skip n.y coeffs;
      u = uv_plane uv skip n.u coeffs 272;
      v = uv_plane uv skip n.v coeffs 336;
      clipped = y_whole_clipped y skip n.y coeffs + uv_clipped uv skip n.u coeffs 272 + uv_clipped uv skip n.v coeffs 336;
    }

unfoldable pub non_b : MbModes → MbNeighbors → List ℤ → MbAnswer
non_b m n coeffs =
    pick (is_b m.y) (refusal b_pred)
    (pick (eqb (length coeffs) 400) (whole_of m.y m.uv m.skip n coeffs) (refusal wrong_length))

-- ---- luma mode B: 384 coefficients, U's from 256 on and V's from 320 on
unfoldable pub parts_of : List IntraBmode → IntraUvMode → Bool → MbNeighbors → List ℤ → MbAnswer
parts_of modes uv skip n coeffs =
    record {
      reply = done;
      y = y_parts modes skip n.y coeffs;
      u = uv_plane uv skip n.u coeffs 256;
      v = uv_plane uv skip n.v coeffs 320;
      clipped = y_parts_clipped modes skip n.y coeffs + uv_clipped uv skip n.u coeffs 256 + uv_clipped uv skip n.v coeffs 320;
    }

unfoldable pub walk_b : List IntraBmode → Bool → MbModes → MbNeighbors → List ℤ → MbAnswer
walk_b modes there m n coeffs =
    pick there
    (pick (eqb (length coeffs) 384) (parts_of modes m.uv m.skip n coeffs) (refusal wrong_length))
    (refusal no_sub_modes)
