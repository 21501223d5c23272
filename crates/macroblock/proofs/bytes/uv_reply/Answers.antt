-- `macroblock::bytes::uv_reply` meets its contract: this half of what `try_from` answers. Assumes nothing.
use mathlib.Core.Path.{ap, ◌∙◌}
use Prim.Native.Nat.{ℕ}
use Rattle.macroblock.specs.declared.modes.IntraUvMode.{IntraUvMode}
use Rattle.macroblock.specs.Says.{uv_reply}
use Rattle.macroblock.proofs.Says as says
use Rattle.macroblock.proofs.bytes.uv_reply.Goals as goal

pub returns : goal.returns
unfolding uv_reply
returns c = c.reply_of.ensures ∙ says.uv-reply c.try_from.result ∙ ap (λ (w : ℕ × IntraUvMode). w.0) c.try_from.ensures
