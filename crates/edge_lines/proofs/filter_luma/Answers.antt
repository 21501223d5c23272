use mathlib.Core.Path.{refl, sym, ◌∙◌}
use native.Mathlib.Omega.{arith}
use Rattle.edge_lines.proofs.Places.{seat, seat-square, own-low, luma-left, luma-filtered}
use Rattle.edge_lines.proofs.filter_luma.Goals as goal

pub returns-then-not-seated : goal.returns-then-not-seated
returns-then-not-seated c = luma-left c.args.rule c.args.cols c.args.r c.args.c c.args.inner c.args.direction c.args.y.now (sym c.seated.ensures ∙ c.if-not-seated.true)

pub overflow_mul-stride : goal.overflow_mul-stride
overflow_mul-stride c =
    let s = seat 16 _ _ _ _ (omega arith) (sym c.seated.ensures ∙ c.if-not-seated.false) in
    let n = s.narrow in
    omega arith

pub corner-at-requires : goal.corner-at-requires
corner-at-requires c =
    let s = seat 16 _ _ _ _ (omega arith) (sym c.seated.ensures ∙ c.if-not-seated.false) in
    (omega arith, s.narrow, s.short, s.across)

pub side-requires : goal.side-requires
side-requires c =
    let s = seat 16 _ _ _ _ (omega arith) (sym c.seated.ensures ∙ c.if-not-seated.false) in
    rw c.corner-at.ensures (seat-square 16 _ _ _ _ s, λ t. own-low c.args.direction _ _ _ _ _ (omega arith) s (sym c.is_beyond.ensures ∙ t))

pub returns : goal.returns
returns c = luma-filtered c.args.rule c.args.cols c.args.r c.args.c c.args.inner c.args.direction c.args.y.now _ (sym c.seated.ensures ∙ c.if-not-seated.false) (c.side.ensures ∙ rw (c.is_beyond.ensures, c.corner-at.ensures) refl)
