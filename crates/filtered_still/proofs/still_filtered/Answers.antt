-- `filtered_still::still_filtered` meets its contract. Assumes nothing.
use Rattle.std.proofs.lemmas.Result.{err_from_is_err_and}
use Rattle.filtered_still.proofs.Two.{refused-is, done-is}
use Rattle.filtered_still.proofs.still_filtered.Goals as goal

pub returns-in_err-clipped : goal.returns-in_err-clipped
returns-in_err-clipped c =
    let a = c.args in
    let p = err_from_is_err_and c.from_residual.result c.from_residual.ensures.1 in
    rw (p.1, p.2) (refused-is a.cols a.rows a.kind a.sharpness a.levels.now a.inner.now _ _ _ _ _ c.in_err-clipped.ensures)

pub returns-in-Ok : goal.returns-in-Ok
returns-in-Ok c =
    let a = c.args in
    done-is a.cols a.rows a.kind a.sharpness a.levels.now a.inner.now _ _ _ _ _ _ _ _ _ c.in_ok-clipped.ensures c.in-Ok.ensures

pub returns-in-Err : goal.returns-in-Err
returns-in-Err c =
    let a = c.args in
    done-is a.cols a.rows a.kind a.sharpness a.levels.now a.inner.now _ _ _ _ _ _ _ _ _ c.in_ok-clipped.ensures c.in-Err.ensures
