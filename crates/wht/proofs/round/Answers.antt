-- `wht::round` meets its contract. Assumes nothing.
use mathlib.Core.Path.{◌∙◌, ap}
use lib.IntN.{pos, ◌+ℤ◌}
use Rattle.whole.specs.Whole.{narrow}
use Rattle.whole.proofs.Held.{R32, held16}
use Rattle.whole.proofs.Chain.{Is, known, lit, held, plus, down, fits32}
use Rattle.rfc6386.specs.Wht.{wht_round}
use Rattle.wht.proofs.round.Goals as goal

sum : (c : goal.Start) → Is 524291 (R32 c.args.x +ℤ pos 3) (c.args.x +ℤ pos 3)
sum c = plus (held (known c.args.x c.requires) tt) (lit (pos 3))

pub returns : goal.returns
unfolding wht_round
returns c = held16 _ c.narrow.type_inv ∙ c.narrow.ensures ∙ ap narrow (held (down (held (sum c.before) tt) 8) tt).is

pub overflow_add-x : goal.overflow_add-x
overflow_add-x c = fits32 (sum c) tt
