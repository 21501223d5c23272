-- `intra_subblock::dc` meets its contract: DC at n = 4. Assumes nothing.
use mathlib.Core.Path.{◌∙◌}
use native.Mathlib.Omega.{arith}
use Rattle.rfc6386.proofs.Subblock.{front, dc-at-four}
use Rattle.intra_subblock.proofs.dc.Goals as goal

pub returns : goal.returns
returns c = (rw (front c.args.a (omega arith)) at c.predict_b4x4_dc.ensures) ∙ dc-at-four _ _
