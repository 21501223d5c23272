-- `residue::plane::ac_free` meets its contract. Assumes nothing.
use mathlib.Core.Path.{◌∙◌}
use native.Mathlib.Omega.{arith}
use lib.ListN.{take, drop}
use Rattle.std.proofs.Common.{rules, tests}
use Rattle.std.proofs.lemmas.Iterator.{YieldsList-from_slice}
use Rattle.std.proofs.lemmas.Iterator.Search.{all_from_yields_List}
use Rattle.whole.proofs.Held.{elem16}
use Rattle.residue.specs.Answer.{ac_free}
use Rattle.residue.proofs.AcFree.{zero-test, zeros-tested}
use Rattle.residue.proofs.plane.ac_free.Goals as goal

pub returns : goal.returns
unfolding ac_free
returns c =
    let x = c.args.input in
    all_from_yields_List zero-test _ _ c.all.result c.all.ensures.ran (YieldsList-from_slice (take 15 (drop 1 x)) (cc)) (λ y b q k. search (rules, tests))
    ∙ zeros-tested x (omega arith) (λ i. elem16 x c.well_formed.0.0 i c.well_formed.0.1.1)
