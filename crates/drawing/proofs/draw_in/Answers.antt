-- `drawing::draw_in` meets its contract. Assumes nothing.
use Rattle.drawing.specs.Drawn.{drawn_in}
use Rattle.drawing.proofs.draw_in.Goals as goal

pub returns-then-is_b : goal.returns-then-is_b
unfolding drawn_in
returns-then-is_b c = rw (← c.is_b.ensures, c.if-is_b.true) c.draw_b.ensures

pub returns : goal.returns
unfolding drawn_in
returns c = rw (← c.is_b.ensures, c.if-is_b.false) c.decode_keyframe_mb_non_bpred.ensures
