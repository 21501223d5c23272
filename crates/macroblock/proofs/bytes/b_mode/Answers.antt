-- `macroblock::bytes::b_mode` meets its contract: this half of what `try_from` answers. Assumes nothing.
use mathlib.Core.Path.{ap, ◌∙◌}
use Prim.Native.Nat.{ℕ}
use Rattle.macroblock.specs.declared.modes.IntraBmode.{IntraBmode}
use Rattle.macroblock.specs.Says.{b_mode}
use Rattle.macroblock.proofs.Says as says
use Rattle.macroblock.proofs.bytes.b_mode.Goals as goal

pub returns : goal.returns
unfolding b_mode
returns c = c.unwrap_or.ensures ∙ says.b-mode c.try_from.result ∙ ap (λ (w : ℕ × IntraBmode). w.1) c.try_from.ensures
