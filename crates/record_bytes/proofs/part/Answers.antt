-- `record_bytes::part` meets its contract. Assumes nothing.
use mathlib.Core.Path.{◌∙◌}
use native.Mathlib.Omega.{arith}
use Rattle.record_bytes.proofs.Laid.{taken-part}
use Rattle.record_bytes.proofs.part.Goals as goal

pub returns : goal.returns
returns g c = c.copy_from_slice.ensures.after ∙ taken-part _ _ _ (omega arith)
