-- `macroblock::bytes::b_reply` meets its contract: this half of what `try_from` answers. Assumes nothing.
use mathlib.Core.Path.{ap, ◌∙◌}
use Prim.Native.Nat.{ℕ}
use Rattle.macroblock.specs.declared.modes.IntraBmode.{IntraBmode}
use Rattle.macroblock.specs.Says.{b_reply}
use Rattle.macroblock.proofs.Says as says
use Rattle.macroblock.proofs.bytes.b_reply.Goals as goal

pub returns : goal.returns
unfolding b_reply
returns c = c.reply_of.ensures ∙ says.b-reply c.try_from.result ∙ ap (λ (w : ℕ × IntraBmode). w.0) c.try_from.ensures
