-- `drawing::modes_of` meets its contract: at the first byte that says nothing the three do not. Assumes nothing.
use mathlib.Core.Path.{refl}
use native.Mathlib.Omega.{arith}
use borrow.Author.Tests.{le-leb, lt-leb}
use Rattle.std.proofs.lemmas.Result.{err_from_is_err_and}
use Rattle.drawing.specs.Drawn.{modes_known, modes_of}
use Rattle.drawing.proofs.Bytes.{y-none, uv-none, y-one, uv-one}
use Rattle.drawing.proofs.modes_of.Goals as goal

pub returns-in_err-y : goal.returns-in_err-y
unfolding modes_known
returns-in_err-y c =
    let p = err_from_is_err_and c.from_residual.result c.from_residual.ensures.1 in
    let k = y-none _ _ c.in_err-y.ensures in
    rw (p.1, p.2, k.0, k.1, modes_known) refl

pub returns-in_err-uv : goal.returns-in_err-uv
unfolding modes_known
returns-in_err-uv c =
    let p = err_from_is_err_and c.from_residual-in_err-uv.result c.from_residual-in_err-uv.ensures.1 in
    let k = y-one _ _ c.in_ok-y.ensures in
    let m = uv-none _ _ c.in_err-uv.ensures in
    rw (p.1, p.2, m.0, k.0, m.1, modes_known) refl

pub returns-then-skip-gt1 : goal.returns-then-skip-gt1
unfolding modes_known
returns-then-skip-gt1 c =
    let k = y-one _ _ c.in_ok-y.ensures in
    let m = uv-one _ _ c.in_ok-uv.ensures in
    rw (k.0, m.0, lt-leb c.args.skip 1 (omega arith), modes_known) refl

pub returns : goal.returns
unfolding modes_known modes_of
returns c =
    let k = y-one _ _ c.in_ok-y.ensures in
    let m = uv-one _ _ c.in_ok-uv.ensures in
    rw (k.0, m.0, le-leb c.args.skip 1 (omega arith), modes_known, k.1, m.1) refl
