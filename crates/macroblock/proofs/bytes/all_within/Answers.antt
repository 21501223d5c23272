-- `macroblock::bytes::all_within` meets its contract. Assumes nothing.
use Rattle.std.proofs.Common.{rules, tests, sym, ◌∙◌}
use Rattle.std.specs.Prelude.{leb}
use Rattle.std.proofs.lemmas.Iterator.{YieldsList-from_slice}
use Rattle.std.proofs.lemmas.Iterator.Search.{all_from_yields_List}
use Rattle.macroblock.proofs.Within.{within-all}
use Rattle.macroblock.proofs.bytes.all_within.Goals as goal

pub returns : goal.returns
returns c =
    let bytes = c.args.bytes.now in
    all_from_yields_List (λ x. leb x c.args.most) _ _ _ c.all.ensures.ran (YieldsList-from_slice bytes cc) (λ x b q k. search (rules, tests))
    ∙ sym (within-all c.args.most bytes)
