use mathlib.Core.Path.{refl, sym, ◌∙◌}
use native.Mathlib.Omega.{arith}
use Rattle.edge_lines.proofs.Places.{seat, seat-square, own-low, u-left, v-left, chroma-filtered}
use Rattle.edge_lines.proofs.filter_chroma.Goals as goal

pub returns-then-not-seated : goal.returns-then-not-seated
returns-then-not-seated c = u-left c.args.rule c.args.cols c.args.r c.args.c c.args.inner c.args.u.now c.args.v.now c.args.direction (sym c.seated.ensures ∙ c.if-not-seated.true)

pub returns-then-not-seated-2 : goal.returns-then-not-seated-2
returns-then-not-seated-2 c =
    v-left c.args.rule c.args.cols c.args.r c.args.c c.args.inner c.args.u.now c.args.v.now c.args.direction (sym c.seated.ensures ∙ c.if-not-seated.false) (sym c.seated-2.ensures ∙ c.if-not-seated-2.true)

pub overflow_mul-stride : goal.overflow_mul-stride
overflow_mul-stride c =
    let s = seat 8 _ _ _ _ (omega arith) (sym c.seated-2.ensures ∙ c.if-not-seated-2.false) in
    let n = s.narrow in
    omega arith

pub corner-at-requires : goal.corner-at-requires
corner-at-requires c =
    let s = seat 8 _ _ _ _ (omega arith) (sym c.seated-2.ensures ∙ c.if-not-seated-2.false) in
    (omega arith, s.narrow, s.short, s.across)

pub side-requires : goal.side-requires
side-requires c =
    let s = seat 8 _ _ _ _ (omega arith) (sym c.seated.ensures ∙ c.if-not-seated.false) in
    let t = seat 8 _ _ _ _ (omega arith) (sym c.seated-2.ensures ∙ c.if-not-seated-2.false) in
    rw c.corner-at.ensures (seat-square 8 _ _ _ _ s, seat-square 8 _ _ _ _ t, λ y. own-low c.args.direction _ _ _ _ _ (omega arith) s (sym c.is_beyond.ensures ∙ y))

pub returns : goal.returns
returns c =
    chroma-filtered c.args.rule c.args.cols c.args.r c.args.c c.args.inner c.args.u.now c.args.v.now c.args.direction _ _ (sym c.seated.ensures ∙ c.if-not-seated.false) (sym c.seated-2.ensures ∙ c.if-not-seated-2.false)
    (c.side.ensures.0 ∙ rw (c.is_beyond.ensures, c.corner-at.ensures) refl)
    (c.side.ensures.1 ∙ rw (c.is_beyond.ensures, c.corner-at.ensures) refl)
