-- `zopredil::neighbours::gathered` meets its contract: the bytes of an absent record are zeros. Assumes nothing.
use mathlib.Core.Path.{refl, sym, ap, ◌∙◌}
use Rattle.std.proofs.lemmas.Result.{err_from_is_err_and}
use Rattle.lists.proofs.Pairs.{pair}
use Rattle.gathering.specs.Answers.{Gathered}
use Rattle.zopredil.specs.Neighbours.{bytes_told}
use Rattle.zopredil.proofs.Record.{absent-zeros}
use Rattle.zopredil.proofs.neighbours.gathered.Goals as goal

pub returns-in_err-neighbors : goal.returns-in_err-neighbors
returns-in_err-neighbors c =
    let p = err_from_is_err_and c.from_residual.result c.from_residual.ensures.1 in
    rw (p.1, p.2) (pair refl (sym absent-zeros) ∙ ap (λ (g : Gathered). bytes_told g) c.in_err-neighbors.ensures)

pub returns : goal.returns
returns c = pair refl c.bytes_of.ensures ∙ ap (λ (g : Gathered). bytes_told g) c.in_ok-neighbors.ensures
