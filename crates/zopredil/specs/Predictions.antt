-- The predictors of RFC 6386, section 12, by a mode's number: what each call answers, beside what `out` then holds. An edge of the
-- 16x16 and 8x8 predictors that is empty is absent. A slice of another length than it must have is reply 1, and nothing is written; a number that is
-- no mode's is reply 8, and zeros are written.
use Rattle.std.specs.Prelude.{ℕ, Bool, true, List, eqb, length, replicate}
use Rattle.lists.specs.Lists.{pick, both, sized, ◌beside◌}
use Rattle.slices.specs.Copies.{or_zeros}
use Rattle.macroblock.specs.Reply.{done, wrong_length, unknown_byte}
use Rattle.macroblock.specs.Says.{y_reply, y_mode, uv_reply, uv_mode, b_reply, b_mode}
use Rattle.rfc6386.specs.Edges.{predict_uv}
use Rattle.rfc6386.specs.Subblock.{predict_b}
use Rattle.intra_predict.specs.Luma.{predicted_y}

-- an edge of n pixels, or an absent one
unfoldable pub edge_fits : ℕ → ℕ → Bool
edge_fits n edge = pick (eqb edge n) true (eqb edge 0)

-- the lengths of both edges, n each, and of the block
unfoldable pub lengths_fit : ℕ → ℕ → ℕ → ℕ → ℕ → Bool
lengths_fit n block above left out = both (edge_fits n above) (both (edge_fits n left) (eqb out block))

-- ---- by the number alone, where the lengths fit
unfoldable pub luma_drawn : ℕ → List ℕ → List ℕ → ℕ → ℕ × List ℕ
luma_drawn mode above left p =
    let r = predicted_y (y_mode mode) (or_zeros 0 16 above) (sized 16 above) (or_zeros 0 16 left) (sized 16 left) p in
    pick (eqb (y_reply mode) done) (r.reply beside r.pixels) (unknown_byte beside replicate 256 0)

unfoldable pub chroma_drawn : ℕ → List ℕ → List ℕ → ℕ → ℕ × List ℕ
chroma_drawn mode above left p =
    pick (eqb (uv_reply mode) done)
    (done beside predict_uv (uv_mode mode) (or_zeros 0 8 above) (sized 8 above) (or_zeros 0 8 left) (sized 8 left) p)
    (unknown_byte beside replicate 64 0)

unfoldable pub sub_block_drawn : ℕ → List ℕ → List ℕ → ℕ → ℕ × List ℕ
sub_block_drawn mode above left p =
    pick (eqb (b_reply mode) done) (done beside predict_b (b_mode mode) above left p) (unknown_byte beside replicate 16 0)

-- ---- the answers
unfoldable pub luma_answer : ℕ → List ℕ → List ℕ → ℕ → List ℕ → ℕ × List ℕ
luma_answer mode above left p out =
    pick (lengths_fit 16 256 (length above) (length left) (length out)) (luma_drawn mode above left p) (wrong_length beside out)

unfoldable pub chroma_answer : ℕ → List ℕ → List ℕ → ℕ → List ℕ → ℕ × List ℕ
chroma_answer mode above left p out =
    pick (lengths_fit 8 64 (length above) (length left) (length out)) (chroma_drawn mode above left p) (wrong_length beside out)

unfoldable pub sub_block_answer : ℕ → List ℕ → List ℕ → ℕ → List ℕ → ℕ × List ℕ
sub_block_answer mode above left p out =
    pick (both (sized 8 above) (both (sized 4 left) (sized 16 out))) (sub_block_drawn mode above left p) (wrong_length beside out)
