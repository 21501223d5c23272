use Rattle.loop_filter.proofs.Both.{mb-is, mb-none, pick_yes, pick_no, pick_same}
use Rattle.loop_filter.proofs.Picture.filter_macroblock.Goals as goal

pub returns-then-level-eq0 : goal.returns-then-level-eq0
returns-then-level-eq0 c =
    let e = c.if-level-eq0.true in
    let a = c.args in
    let s = a.self in (
      mb-none s.simple a.level s.sharpness a.inner 16 s.cols a.r a.c a.y.now e,
      pick_same s.simple _ _ (mb-none s.simple a.level s.sharpness a.inner 8 s.cols a.r a.c a.u.now e),
      pick_same s.simple _ _ (mb-none s.simple a.level s.sharpness a.inner 8 s.cols a.r a.c a.v.now e),
    )

pub returns-then-luma_only : goal.returns-then-luma_only
returns-then-luma_only c =
    let p = c.requires in
    (mb-is _ _ _ _ _ _ _ _ _ _ _ c.if-level-eq0.false p.0 p.1 c.rule_of-rule.ensures c.luma_edges.ensures, pick_yes _ _ _ c.if-luma_only.true, pick_yes _ _ _ c.if-luma_only.true)

pub returns : goal.returns
returns c =
    let p = c.requires in (
      mb-is _ _ _ _ _ _ _ _ _ _ _ c.if-level-eq0.false p.0 p.1 c.rule_of-rule.ensures c.luma_edges.ensures,
      pick_no _ _ _ _ c.if-luma_only.false (mb-is _ _ _ _ _ _ _ _ _ _ _ c.if-level-eq0.false p.0 p.1 c.rule_of-rule.ensures c.chroma_edges.ensures.0),
      pick_no _ _ _ _ c.if-luma_only.false (mb-is _ _ _ _ _ _ _ _ _ _ _ c.if-level-eq0.false p.0 p.1 c.rule_of-rule.ensures c.chroma_edges.ensures.1),
    )
