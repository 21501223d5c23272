-- What gathering answers, of every answer that its promise admits: 7 and 1 exactly where the limits say so, with every edge absent; else 0,
-- each part of an edge outside the picture absent with zero bytes, and each other the finished pixels beside the macroblock; below the first row the
-- top-left pixels of the first column 129, and the four above right of the last column those given.
-- Assumes nothing.
use Prim.Native.Nat.{ℕ, ◌+◌, ◌-◌, ◌*◌, ◌<◌}
use mathlib.Core.Bool.{true}
use mathlib.Core.Path.{◌≡◌, ap, ◌∙◌}
use mathlib.Core.List.{List, []}
use native.Mathlib.Omega.{arith}
use lib.ListN.{length, get_or}
use Rattle.lists.specs.Lists.{part}
use Rattle.macroblock.specs.Reply.{done, wrong_length, outside_picture}
use Rattle.rfc6386.specs.Picture.{luma_beside, chroma_beside, neighbors_of, place_ok}
use Rattle.gathering.specs.Answers.{Gathered, gathered, refused}
use Rattle.picture_limits.proofs.Accepted.{Within, Lengths, place-true, place-false, sizes-true, sizes-false}
use Rattle.picture_limits.proofs.Bounds.{placed}
use Rattle.gathering.proofs.Pixels.{Absent, There, Around, around, right-outside, right-given, right-beside}

module _ (y u v : List ℕ) (w h c r : ℕ) (right : List ℕ) (g : Gathered) (e : g ≡ gathered y u v w h c r right) where
  pub place-refused : (Within w h c r → ⊥) → g ≡ refused outside_picture
  unfolding gathered
  place-refused k = e ∙ rw (place-false w h c r k)

  module _ (p : Within w h c r) where
    here : place_ok w h c r ≡ true
    here = place-true w h c r p

    pub lengths-refused : (Lengths (length y) (length u) (length v) w h → ⊥) → g ≡ refused wrong_length
    unfolding gathered
    lengths-refused k = e ∙ rw (here, sizes-false (length y) (length u) (length v) w h k)

    module _ (q : Lengths (length y) (length u) (length v) w h) where
      pub accepted : g ≡ record { reply = done; neighbors = neighbors_of y u v w c r right }
      unfolding gathered
      accepted = e ∙ rw (here, sizes-true (length y) (length u) (length v) w h q)

      pub reply-done : g.reply ≡ 0
      reply-done = ap (λ (x : Gathered). x.reply) accepted

      n-is : g.neighbors ≡ neighbors_of y u v w c r right
      n-is = ap (λ (x : Gathered). x.neighbors) accepted

      -- ---- the edges that each plane has, by the law over the side: the first pixel of its row, the next n, and its left column
      pub y-edges : (let e = g.neighbors.y in
          Around 16 y w c r (get_or e.row 0 0) (part 16 e.row 1) e.left e.topleft_there e.above_there e.left_there)
      unfolding neighbors_of luma_beside
      y-edges = rw n-is (around (placed 16 y w h c r (omega arith) p.column p.row q.y-plane) 21 right (omega arith))

      pub u-edges : (let e = g.neighbors.u in
          Around 8 u w c r (get_or e.row 0 0) (part 8 e.row 1) e.left e.topleft_there e.above_there e.left_there)
      unfolding neighbors_of chroma_beside
      u-edges = rw n-is (around (placed 8 u w h c r (omega arith) p.column p.row q.u-plane) 9 [] (omega arith))

      pub v-edges : (let e = g.neighbors.v in
          Around 8 v w c r (get_or e.row 0 0) (part 8 e.row 1) e.left e.topleft_there e.above_there e.left_there)
      unfolding neighbors_of chroma_beside
      v-edges = rw n-is (around (placed 8 v w h c r (omega arith) p.column p.row q.v-plane) 9 [] (omega arith))

      -- ---- and the last four of the luma row
      pub above-right-outside : r ≡ 0 → (let e = g.neighbors.y in Absent 4 e.above_right_there (part 4 e.row 17))
      unfolding neighbors_of luma_beside
      above-right-outside z = rw n-is (right-outside y w c r right z)

      pub above-right-given : 0 < r → c + 1 ≡ w → length right ≡ 4
          → (let e = g.neighbors.y in (e.above_right_there ≡ true) × (part 4 e.row 17 ≡ right))
      unfolding neighbors_of luma_beside
      above-right-given z t l = rw n-is (right-given y w c r right z t l)

      pub above-right-beside : 0 < r → c + 1 < w
          → (let e = g.neighbors.y in There y 4 (λ i. (16 * r - 1) * (16 * w) + (16 * c + 16) + i) e.above_right_there (part 4 e.row 17))
      unfolding neighbors_of luma_beside
      above-right-beside z t = rw n-is (right-beside y w c r right (placed 16 y w h c r (omega arith) p.column p.row q.y-plane) z t)
