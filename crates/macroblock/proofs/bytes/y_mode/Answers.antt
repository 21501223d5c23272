-- `macroblock::bytes::y_mode` meets its contract: this half of what `try_from` answers. Assumes nothing.
use mathlib.Core.Path.{ap, ◌∙◌}
use Prim.Native.Nat.{ℕ}
use Rattle.macroblock.specs.declared.modes.IntraYMode.{IntraYMode}
use Rattle.macroblock.specs.Says.{y_mode}
use Rattle.macroblock.proofs.Says as says
use Rattle.macroblock.proofs.bytes.y_mode.Goals as goal

pub returns : goal.returns
unfolding y_mode
returns c = c.unwrap_or.ensures ∙ says.y-mode c.try_from.result ∙ ap (λ (w : ℕ × IntraYMode). w.1) c.try_from.ensures
