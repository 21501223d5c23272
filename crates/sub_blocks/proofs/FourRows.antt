-- Four rows of four stores are the sixteen stores of a sub-block. Assumes nothing.
use Prim.Native.Nat.{ℕ, ◌+◌, ◌*◌, ◌/◌, ◌%◌, ◌<◌}
use mathlib.Core.Path.{◌≡◌, sym, ◌∙◌}
use mathlib.Core.List.{List}
use native.Mathlib.Omega.{arith}
use lib.IntN.{ℤ, pos}
use lib.ListN.{get_or}
use Rattle.lists.specs.Lists.{turns, store}
use Rattle.lists.proofs.Nested.{turns-ext, turns-rows}
use Rattle.lists.proofs.Table.{table_at}
use Rattle.rfc6386.specs.Residue.{sum}
use Rattle.rfc6386.specs.Walk.{put_block}
use Rattle.sub_blocks.specs.Steps.{put_row, sum_row, summed_with}

-- rows whose values are those of px
four-rows : (at : ℕ) (f : ℕ → ℕ → ℕ) (px b : List ℕ) → ((r c : ℕ) → r < 4 → c < 4 → get_or px (r * 4 + c) 0 ≡ f r c)
    → turns 4 (λ r. turns 4 (store (λ c. at + 21 * r + c) (f r))) b ≡ put_block at px b
unfolding put_block
four-rows at f px b h =
    sym
    (turns-rows 4 4 (store (λ i. at + 21 * (i / 4) + i % 4) (λ i. get_or px i 0)) b
    ∙ turns-ext 4 _ _ b λ r y l.
    turns-ext 4 _ _ y λ c z k.
    let i : at + 21 * ((r * 4 + c) / 4) + (r * 4 + c) % 4 ≡ at + 21 * r + c = omega arith in
    rw (i, h r c l k))

pub put-rows : (at : ℕ) (px b : List ℕ) → turns 4 (put_row at px) b ≡ put_block at px b
unfolding put_row
put-rows at px b = four-rows at (λ r c. get_or px (4 * r + c) 0) px b (λ r c l k. let e : r * 4 + c ≡ 4 * r + c = omega arith in rw e)

pub sum_rows : (at : ℕ) (px : List ℕ) (o : List ℤ) (j : ℕ) (b : List ℕ) → turns 4 (sum_row at px o j) b ≡ put_block at (summed_with o j px) b
unfolding sum_row summed_with
sum_rows at px o j b =
    four-rows at (λ r c. sum (get_or px (4 * r + c) 0) (get_or o (16 * r + 4 * j + c) (pos 0))) _ b
    (λ r c l k.
    let e : r * 4 + c ≡ 4 * r + c = omega arith in
    let q : 16 * ((r * 4 + c) / 4) + 4 * j + (r * 4 + c) % 4 ≡ 16 * r + 4 * j + c = omega arith in
    table_at 16 (λ i. sum (get_or px i 0) (get_or o (16 * (i / 4) + 4 * j + i % 4) (pos 0))) (r * 4 + c) 0 (omega arith) ∙ rw (q, e))
