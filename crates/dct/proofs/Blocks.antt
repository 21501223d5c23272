-- What the loops make of a block, and of four blocks side by side, is what the RFC says. At 4 and at 16 columns both sides compute, place by place.
-- Assumes nothing.
use mathlib.Core.Path.{◌≡◌, refl, ◌∙◌}
use mathlib.Core.List.{List}
use lib.IntN.{ℤ, pos}
use lib.ListN.{replicate}
use Rattle.lists.specs.Lists.{table, rows, turns}
use Rattle.rfc6386.specs.Dct.{entry, column, passes, residue, idct, idct_four}
use Rattle.dct_line.specs.Lines.{line_of, row_of}
use Rattle.dct.specs.Turns.{column_turn, row_turn, widened, besides}

one : (l : List ℤ) → turns 4 (row_turn (turns 4 (column_turn 4 (table 16 (entry l))) (replicate 16 (pos 0)))) (replicate 16 (pos 0)) ≡ idct l
unfolding turns table rows line_of row_of column_turn row_turn idct residue passes column
one l = refl

four : (l : List ℤ) → turns 16 (row_turn (turns 16 (column_turn 16 (besides l)) (replicate 64 (pos 0)))) (replicate 64 (pos 0)) ≡ idct_four l
unfolding turns table rows line_of row_of column_turn row_turn widened besides idct_four residue passes column
four l = refl

-- t is what the columns leave, and o what the rows leave
pub one_block : (l s t o : List ℤ) → s ≡ table 16 (entry l) → t ≡ turns 4 (column_turn 4 s) (replicate 16 (pos 0))
    → o ≡ turns 4 (row_turn t) (replicate 16 (pos 0)) → o ≡ idct l
one_block l s t o d e f = f ∙ rw (e, d) (one l)

pub four-blocks : (l s t o : List ℤ) → s ≡ besides l → t ≡ turns 16 (column_turn 16 s) (replicate 64 (pos 0))
    → o ≡ turns 16 (row_turn t) (replicate 64 (pos 0)) → o ≡ idct_four l
four-blocks l s t o d e f = f ∙ rw (e, d) (four l)
