-- The neighbours of a finished macroblock at its turn are those of RFC 6386, 12.2 and 12.3, in the planes that the macroblocks before it left.
-- Assumes nothing.
use Prim.Native.Nat.{ℕ, ◌*◌, ◌/◌, ◌%◌, ◌<◌}
use mathlib.Core.Path.{◌≡◌, ap, ◌∙◌}
use mathlib.Core.List.{List}
use mathlib.Core.Logic.{⊎_elim}
use native.Mathlib.Nat.{mod-lt}
use native.Mathlib.Omega.{arith}
use lib.IntN.{ℤ}
use lib.ListN.{length}
use Rattle.macroblock.specs.Reply.{done}
use Rattle.rfc6386.specs.Picture.{neighbors_of}
use Rattle.picture_limits.proofs.Accepted.{Within, Lengths, place-true, sizes-true}
use Rattle.gathering.specs.Answers.{Gathered, gathered}
use Rattle.still.specs.Picture.{Progress, first}
use Rattle.still.proofs.Sizes.{row_within}
use Rattle.still_laws.specs.Words.{in_y, in_u, in_v, neighbors_at, Finished}
use Rattle.still_laws.proofs.First.{first-length}
use Rattle.still_laws.proofs.Answered.{Answered, refused, drawn}

-- ---- gathering in a picture whose size and planes are accepted
module _ (w h : ℕ) (right : ℕ → List ℕ → List ℕ) (k : ℕ) (d : Progress)
    (p : Within w h (k % w) (k / w)) (l : Lengths (length d.y) (length d.u) (length d.v) w h) where
  gathers : gathered d.y d.u d.v w h (k % w) (k / w) (right (k / w) d.y)
      ≡ record { reply = done; neighbors = neighbors_of d.y d.u d.v w (k % w) (k / w) (right (k / w) d.y) }
  unfolding gathered
  gathers = rw (place-true w h (k % w) (k / w) p, sizes-true (length d.y) (length d.u) (length d.v) w h l)

  pub gathers-all : (gathered d.y d.u d.v w h (k % w) (k / w) (right (k / w) d.y)).reply ≡ done
  gathers-all = ap (λ (g : Gathered). g.reply) gathers

  pub neighbors-are : neighbors_at w h right k d ≡ neighbors_of d.y d.u d.v w (k % w) (k / w) (right (k / w) d.y)
  unfolding neighbors_at
  neighbors-are = ap (λ (g : Gathered). g.neighbors) gathers

-- ---- the planes at turn k
module _ (w h : ℕ) (modes subs : List ℕ) (coeffs : List ℤ) (right : ℕ → List ℕ → List ℕ) (y u v : List ℕ) where
  abbrev at : ℕ → Progress
  at k = first w h modes subs coeffs right k y u v

  pub place : Within w h 0 0 → (k : ℕ) → k < w * h → Within w h (k % w) (k / w)
  place size k l =
      record { width = size.width; height = size.height; column = mod-lt k size.column; row = row_within k w h size.column l }

  pub lengths-at : Lengths (length y) (length u) (length v) w h → (k : ℕ) → Lengths (length (at k).y) (length (at k).u) (length (at k).v) w h
  lengths-at planes k =
      record {
        y-plane = first-length w h modes subs coeffs right y u v k in_y ∙ planes.y-plane;
        u-plane = first-length w h modes subs coeffs right y u v k in_u ∙ planes.u-plane;
        v-plane = first-length w h modes subs coeffs right y u v k in_v ∙ planes.v-plane;
      }

  pub finished-neighbors : {d : Progress} → Answered w h modes subs coeffs y u v right d → (k : ℕ) → Finished w h d k
      → neighbors_at w h right k (at k) ≡ neighbors_of (at k).y (at k).u (at k).v w (k % w) (k / w) (right (k / w) (at k).y)
  finished-neighbors (refused n r) k f = absurd (⊎_elim r (λ l. omega arith) f.drawn)
  finished-neighbors (drawn size planes) k f = neighbors-are w h right k (at k) (place size k f.inside) (lengths-at planes k)
