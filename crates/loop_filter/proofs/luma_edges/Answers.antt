use mathlib.Core.Path.{◌∙◌}
use Rattle.loop_filter.proofs.Both.{luma-is}
use Rattle.loop_filter.proofs.luma_edges.Goals as goal

pub returns : goal.returns
returns c =
    let a = c.args in
    c.filter_luma-2.ensures
    ∙ luma-is a.rule 16 a.cols a.r a.c a.inner a.y.now c.filter_luma.new.y c.requires c.filter_luma.auto.y c.filter_luma.ensures
