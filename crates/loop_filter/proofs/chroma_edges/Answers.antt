use Prim.Native.Nat.{ℕ}
use mathlib.Core.Path.{ap, ◌∙◌}
use mathlib.Core.List.{List}
use Rattle.loop_filter.proofs.Both.{chroma-is}
use Rattle.loop_filter.proofs.chroma_edges.Goals as goal

pub returns : goal.returns
returns c =
    let a = c.args in
    let e =
    c.filter_chroma-2.ensures
    ∙ chroma-is a.rule a.cols a.r a.c a.inner a.u.now a.v.now c.filter_chroma.new.u c.filter_chroma.new.v c.requires.0 c.requires.1
    c.filter_chroma.auto.u c.filter_chroma.auto.v c.filter_chroma.ensures in
    (ap (λ (w : List ℕ × List ℕ). w.0) e, ap (λ (w : List ℕ × List ℕ). w.1) e)
