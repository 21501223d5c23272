-- `drawing::draw_b` meets its contract. Assumes nothing.
use mathlib.Core.Path.{refl}
use Rattle.lists.proofs.Parts.{tail-whole}
use Rattle.std.proofs.lemmas.Result.{err_from_is_err_and}
use Rattle.reconstruct.specs.Answers.{walk_b}
use Rattle.drawing.specs.Drawn.{drawn_b}
use Rattle.drawing.proofs.Bytes.{picked-ok, picked-err}
use Rattle.drawing.proofs.draw_b.Goals as goal

pub returns-then-not-sub_modes_there : goal.returns-then-not-sub_modes_there
unfolding drawn_b walk_b
returns-then-not-sub_modes_there c = rw (c.if-not-sub_modes_there.true) refl

pub returns-in_err-sub_modes : goal.returns-in_err-sub_modes
unfolding drawn_b
returns-in_err-sub_modes c =
    let p = err_from_is_err_and c.from_residual.result c.from_residual.ensures.1 in
    let k = picked-err _ _ _ _ c.in_err-sub_modes.ensures in
    rw (p.1, p.2, k.1, c.if-not-sub_modes_there.false, k.0) refl

pub returns : goal.returns
unfolding drawn_b
returns c =
    let k = picked-ok _ _ _ _ c.in_ok-sub_modes.ensures in
    rw (← tail-whole 16 c.args.coeffs.now, c.if-not-sub_modes_there.false, k.0, ← k.1) c.decode_keyframe_mb_bpred.ensures
