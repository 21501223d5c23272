-- `macroblock::bytes::y_reply` meets its contract: this half of what `try_from` answers. Assumes nothing.
use mathlib.Core.Path.{ap, ◌∙◌}
use Prim.Native.Nat.{ℕ}
use Rattle.macroblock.specs.declared.modes.IntraYMode.{IntraYMode}
use Rattle.macroblock.specs.Says.{y_reply}
use Rattle.macroblock.proofs.Says as says
use Rattle.macroblock.proofs.bytes.y_reply.Goals as goal

pub returns : goal.returns
unfolding y_reply
returns c = c.reply_of.ensures ∙ says.y-reply c.try_from.result ∙ ap (λ (w : ℕ × IntraYMode). w.0) c.try_from.ensures
