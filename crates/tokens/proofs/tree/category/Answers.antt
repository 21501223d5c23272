use Rattle.std.proofs.Common.{ℕ, ◌+◌, ◌∙◌, ap, arith}
use Rattle.tokens.proofs.Trees.{going_on, going_done, small-on, under-eleven, bit_is}
use Rattle.tokens.proofs.tree.category.Goals as goal

pub loop-p-preserved : goal.loop-p-preserved
loop-p-preserved c =
    let a = c.args in
    let l = c.loop-p in
    let b = c.take-bit in
    let z = ap (λ (i : ℕ). l.v + l.v + i) (c.from.ensures ∙ bit_is b.result.0) in (
      small-on l.v (l.v + l.v + c.from.result) l.p-index b.result.0 l.invariant.0 z,
      λ c₀ h. going_on a.src.now a.ps.now l.p-index l.v l.e c.ready.result b.result (l.v + l.v + c.from.result) c₀ c.loop-p-test.true c.ready.ensures b.ensures z (l.invariant.1 c₀ h),
    )

pub returns : goal.returns
returns c =
    let a = c.args in
    let l = c.loop-p in
    going_done a.src.now a.ps.now a.base l.p-index l.v a.d l.e c.ready-2.result (omega arith) c.loop-p-test.false c.requires.0
    (omega (arith, under-eleven l.v l.p-index l.invariant.0 (omega (arith, c.requires.2)), c.requires.1)) l.invariant.1 c.ready-2.ensures
