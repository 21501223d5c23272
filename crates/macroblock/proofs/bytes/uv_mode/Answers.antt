-- `macroblock::bytes::uv_mode` meets its contract: this half of what `try_from` answers. Assumes nothing.
use mathlib.Core.Path.{ap, ◌∙◌}
use Prim.Native.Nat.{ℕ}
use Rattle.macroblock.specs.declared.modes.IntraUvMode.{IntraUvMode}
use Rattle.macroblock.specs.Says.{uv_mode}
use Rattle.macroblock.proofs.Says as says
use Rattle.macroblock.proofs.bytes.uv_mode.Goals as goal

pub returns : goal.returns
unfolding uv_mode
returns c = c.unwrap_or.ensures ∙ says.uv-mode c.try_from.result ∙ ap (λ (w : ℕ × IntraUvMode). w.1) c.try_from.ensures
